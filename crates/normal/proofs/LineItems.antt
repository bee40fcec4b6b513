-- What each kind of line gives, and how a name and a value are written, by their bytes alone.
-- Assumes nothing.
use Rattle.std.specs.Prelude.{Ok, Err}
use mathlib.Core.Path.{◌≡◌, refl, sym, ap, ◌∙◌}
use mathlib.Core.Bool.{Bool, true, false, cond, not, ◌&&◌, ◌||◌, and-false, and-eq-true_iff, or-true, true≢false}
use mathlib.Core.List.{List, [], ◌∷◌, ◌++◌}
use Prim.Native.Nat.{ℕ, suc, ◌≤◌}
use native.Mathlib.Omega.{arith}
use lib.Dec.{eqb, leb}
use lib.ListN.{length, get_or, length-append}
use borrow.Author.Tests.{eqb-true, eq-eqb, ne_eqb, le-leb, leb-true}
use Rattle.octets.specs.declared.class.Class.TheVariants.{Name, Not}
use Rattle.octets.specs.Classes.{is_blank, is_quote, of_class}
use Rattle.octets.specs.Runs.{are_of, trimmed, between}
use Rattle.schedule.specs.declared.Schedule.{Schedule}
use Rattle.field.specs.declared.Dialect.{Dialect}
use Rattle.field.specs.Numbers.{is_digit}
use Rattle.line.specs.declared.Line.TheVariants as line
use Rattle.line.specs.declared.time.When.TheVariants.{Reboot, Timed}
use Rattle.line.specs.Assignments.{part_bytes}
use Rattle.line.specs.Lines.{content_of, starts_entry}
use Rattle.normal.specs.Meanings.{setting, boot, timed, entry_item, of_user, item_in, line_items}
use Rattle.line.specs.Offsets.{is_allowed_setting}
use Rattle.normal.specs.Proper.{is_name, is_value}
use Rattle.normal.proofs.Composition.{name-exact, value-exact}
use Rattle.normal.specs.Texts.{quoted, starts_other, is_bare_name, is_bare_value, name_text, value_text}

-- ---- a line

module _ (d : Dialect) (s : List ℕ) where
  pub setting-items : {name value : _} {zone : _} → content_of (of_user d) s ≡ Ok (line.Setting name value zone) → line_items d s ≡ setting (part_bytes s name) (part_bytes s value) ∷ []
  unfolding line_items item_in
  setting-items e = rw e refl

  pub entry-items : {when : _} {start : ℕ} → content_of (of_user d) s ≡ Ok (line.Entry when start) → line_items d s ≡ entry_item when (between s start (length s)) ∷ []
  unfolding line_items item_in
  entry-items e = rw e refl

  pub ignored-items : content_of (of_user d) s ≡ Ok line.Ignored → line_items d s ≡ []
  unfolding line_items item_in
  ignored-items e = rw e refl

  pub refused-items : {f : _} → content_of (of_user d) s ≡ Err f → line_items d s ≡ []
  unfolding line_items item_in
  refused-items e = rw e refl

pub item-is : (command : List ℕ) → (entry_item Reboot command ≡ boot command) × ((s : Schedule) → entry_item (Timed s) command ≡ timed s command)
unfolding entry_item
item-is command = (refl, λ s. refl)

-- ---- the bytes of a name that stands bare

-- no blank, no `=` and no quote
abbrev pub NameByte : ℕ → Type 0
NameByte b = (b ≡ 32 → ⊥) × (b ≡ 9 → ⊥) × (b ≡ 61 → ⊥) × (b ≡ 34 → ⊥) × (b ≡ 39 → ⊥)

abbrev pub EachName : List ℕ → Type 0
EachName [] = Unit {0}
EachName (b ∷ s) = NameByte b × EachName s

-- a line that starts with it is no comment, and no entry: it isn't `#`, `*`, `@` or a digit
abbrev pub StartsSetting : List ℕ → Type 0
StartsSetting [] = Unit {0}
StartsSetting (b ∷ s) = (b ≡ 35 → ⊥) × (b ≡ 42 → ⊥) × (b ≡ 64 → ⊥) × ((48 ≤ b) × (b ≤ 57) → ⊥)

name-byte : (b : ℕ) → (of_class Name b ≡ true → NameByte b) × (NameByte b → of_class Name b ≡ true)
unfolding of_class is_blank is_quote
name-byte b = (
  (λ e. ((λ q. no 32 e q refl), (λ q. no 9 e q refl), (λ q. no 61 e q refl), (λ q. no 34 e q refl), (λ q. no 39 e q refl))),
  (λ h. rw (ne_eqb b 32 h.0, ne_eqb b 9 h.1, ne_eqb b 61 h.2, ne_eqb b 34 h.3, ne_eqb b 39 h.4) refl),
)
  where
    no : (x : ℕ) → of_class Name b ≡ true → b ≡ x → of_class Name x ≡ false → ⊥
    no x e q f = true≢false (sym e ∙ ap (of_class Name) q ∙ f)

each-name : (s : List ℕ) → (are_of Name s ≡ true → EachName s) × (EachName s → are_of Name s ≡ true)
unfolding are_of
each-name [] = ((λ e. tt), (λ h. refl))
each-name (b ∷ s) =
    let later = each-name s in (
      (λ e. let t = (and-eq-true_iff (of_class Name b) (are_of Name s)).0 e in ((name-byte b).0 t.0, later.0 t.1)),
      (λ h. rw ((name-byte b).1 h.0, later.1 h.1) refl),
    )

starts-setting : (s : List ℕ) → (starts_other (get_or s 0 0) ≡ false → StartsSetting s) × (StartsSetting s → starts_other (get_or s 0 0) ≡ false)
unfolding starts_other starts_entry is_digit
starts-setting [] = ((λ e. tt), (λ h. refl))
starts-setting (b ∷ s) = (
  (λ e. ((λ q. no 35 e q refl), (λ q. no 42 e q refl), (λ q. no 64 e q refl), (λ h. true≢false (sym (digits h.0 h.1) ∙ e)))),
  (λ h. rw (ne_eqb b 35 h.0, ne_eqb b 42 h.1, ne_eqb b 64 h.2, other h.3) refl),
)
  where
    no : (x : ℕ) → starts_other b ≡ false → b ≡ x → starts_other x ≡ true → ⊥
    no x e q f = true≢false (sym f ∙ ap starts_other (sym q) ∙ e)

    digits : 48 ≤ b → b ≤ 57 → starts_other b ≡ true
    digits i j = rw (le-leb 48 b i, le-leb b 57 j, or-true (eqb b 42), or-true (eqb b 35)) refl

    other : ((48 ≤ b) × (b ≤ 57) → ⊥) → (leb 48 b && leb b 57) ≡ false
    other n = go (leb 48 b && leb b 57) refl
      where
        go : (t : Bool) → (leb 48 b && leb b 57) ≡ t → t ≡ false
        go true e = let r = (and-eq-true_iff (leb 48 b) (leb b 57)).0 e in absurd (n (leb-true 48 b r.0, leb-true b 57 r.1))
        go false e = refl

-- ---- the bytes of a value that stands bare

-- it starts with no blank and no quote
abbrev pub StartsValue : List ℕ → Type 0
StartsValue [] = Unit {0}
StartsValue (b ∷ s) = (b ≡ 32 → ⊥) × (b ≡ 9 → ⊥) × (b ≡ 34 → ⊥) × (b ≡ 39 → ⊥)

-- its last byte is no blank
abbrev pub EndsValue : List ℕ → Type 0
EndsValue [] = Unit {0}
EndsValue (b ∷ []) = (b ≡ 32 → ⊥) × (b ≡ 9 → ⊥)
EndsValue (b ∷ (x ∷ s)) = EndsValue (x ∷ s)

starts-value : (s : List ℕ) → ((is_blank (get_or s 0 0) || is_quote (get_or s 0 0)) ≡ false → StartsValue s) × (StartsValue s → (is_blank (get_or s 0 0) || is_quote (get_or s 0 0)) ≡ false)
unfolding is_blank is_quote
starts-value [] = ((λ e. tt), (λ h. refl))
starts-value (b ∷ s) = (
  (λ e. ((λ q. no 32 e q refl), (λ q. no 9 e q refl), (λ q. no 34 e q refl), (λ q. no 39 e q refl))),
  (λ h. rw (ne_eqb b 32 h.0, ne_eqb b 9 h.1, ne_eqb b 34 h.2, ne_eqb b 39 h.3) refl),
)
  where
    no : (x : ℕ) → (is_blank b || is_quote b) ≡ false → b ≡ x → (is_blank x || is_quote x) ≡ true → ⊥
    no x e q f = true≢false (sym f ∙ ap (λ (c : ℕ). is_blank c || is_quote c) (sym q) ∙ e)

ends-value : (s : List ℕ) → (trimmed s ≡ length s → EndsValue s) × (EndsValue s → trimmed s ≡ length s)
unfolding trimmed is_blank
ends-value [] = ((λ e. tt), (λ h. refl))
ends-value (b ∷ []) = (
  (λ e. ((λ q. no 32 e q refl), (λ q. no 9 e q refl))),
  (λ h. rw (ne_eqb b 32 h.0, ne_eqb b 9 h.1) refl),
)
  where
    no : (x : ℕ) → trimmed (b ∷ []) ≡ 1 → b ≡ x → trimmed (x ∷ []) ≡ 0 → ⊥
    no x e q f = let z : ◌≡◌ {A = ℕ} 0 1 = sym f ∙ ap (λ (c : ℕ). trimmed (c ∷ [])) (sym q) ∙ e in omega (arith, z)
ends-value (b ∷ (x ∷ s)) =
    let later = ends-value (x ∷ s) in (
      (λ e. later.0 (go (trimmed (x ∷ s)) (is_blank b && eqb (trimmed (x ∷ s)) 0) e)),
      (λ h. rw (later.1 h, ne_eqb (length (x ∷ s)) 0 (λ q. omega (arith, q)), and-false (is_blank b)) refl),
    )
  where
    go : (m : ℕ) (t : Bool) → cond t 0 (suc m) ≡ suc (suc (length s)) → m ≡ suc (length s)
    go m true e = absurd (omega (arith, e))
    go m false e = omega (arith, e)

-- ---- as they are written

quoted-other : (s : List ℕ) → quoted s ≡ s → ⊥
unfolding quoted
quoted-other s e = go (are_of (Not 34) s) e
  where
    go : (t : Bool) → cond t (34 ∷ s ++ 34 ∷ []) (39 ∷ s ++ 39 ∷ []) ≡ s → ⊥
    go true q = omega (arith, ap length q, length-append s (34 ∷ []))
    go false q = omega (arith, ap length q, length-append s (39 ∷ []))

module _ (s : List ℕ) where
  bare-name : (is_bare_name s ≡ true → EachName s × StartsSetting s) × (EachName s × StartsSetting s → is_bare_name s ≡ true)
  unfolding is_bare_name
  bare-name = (
    (λ e. let t = (and-eq-true_iff (are_of Name s) (not (starts_other (get_or s 0 0)))).0 e in ((each-name s).0 t.0, (starts-setting s).0 (not-true (starts_other (get_or s 0 0)) t.1))),
    (λ h. rw ((each-name s).1 h.0, (starts-setting s).1 h.1) refl),
  )
    where
      not-true : (t : Bool) → not t ≡ true → t ≡ false
      not-true true e = sym e
      not-true false e = refl

  bare-value : (is_bare_value s ≡ true → StartsValue s × EndsValue s) × (StartsValue s × EndsValue s → is_bare_value s ≡ true)
  unfolding is_bare_value
  bare-value = (
    (λ e. let t = (and-eq-true_iff (not (is_blank (get_or s 0 0) || is_quote (get_or s 0 0))) (eqb (trimmed s) (length s))).0 e in
        ((starts-value s).0 (not-true (is_blank (get_or s 0 0) || is_quote (get_or s 0 0)) t.0), (ends-value s).0 (eqb-true (trimmed s) (length s) t.1))),
    (λ h. rw ((starts-value s).1 h.0, eq-eqb (trimmed s) (length s) ((ends-value s).1 h.1)) refl),
  )
    where
      not-true : (t : Bool) → not t ≡ true → t ≡ false
      not-true true e = sym e
      not-true false e = refl

  -- bare exactly if a bare reading wouldn't differ
  pub name-bare-exact : (name_text s ≡ s → EachName s × StartsSetting s) × (EachName s × StartsSetting s → name_text s ≡ s)
  unfolding name_text
  name-bare-exact = ((λ e. bare-name.0 (go (is_bare_name s) refl e)), (λ h. rw (bare-name.1 h) refl))
    where
      go : (t : Bool) → is_bare_name s ≡ t → cond t s (quoted s) ≡ s → t ≡ true
      go true p e = refl
      go false p e = absurd (quoted-other s e)

  pub value-bare-exact : (value_text s ≡ s → StartsValue s × EndsValue s) × (StartsValue s × EndsValue s → value_text s ≡ s)
  unfolding value_text
  value-bare-exact = ((λ e. bare-value.0 (go (is_bare_value s) refl e)), (λ h. rw (bare-value.1 h) refl))
    where
      go : (t : Bool) → is_bare_value s ≡ t → cond t s (quoted s) ≡ s → t ≡ true
      go true p e = refl
      go false p e = absurd (quoted-other s e)

  -- otherwise in double quotes
  pub otherwise-double : are_of (Not 34) s ≡ true
      → ((name_text s ≡ s → ⊥) → name_text s ≡ 34 ∷ (s ++ 34 ∷ [])) × ((value_text s ≡ s → ⊥) → value_text s ≡ 34 ∷ (s ++ 34 ∷ []))
  unfolding name_text value_text quoted
  otherwise-double e = ((λ n. go (is_bare_name s) n ∙ rw e refl), (λ n. go (is_bare_value s) n ∙ rw e refl))
    where
      go : (t : Bool) → (cond t s (quoted s) ≡ s → ⊥) → cond t s (quoted s) ≡ quoted s
      go true n = absurd (n refl)
      go false n = refl

  -- and in single ones, if it has a double one
  pub otherwise-single : are_of (Not 34) s ≡ false
      → ((name_text s ≡ s → ⊥) → name_text s ≡ 39 ∷ (s ++ 39 ∷ [])) × ((value_text s ≡ s → ⊥) → value_text s ≡ 39 ∷ (s ++ 39 ∷ []))
  unfolding name_text value_text quoted
  otherwise-single e = ((λ n. go (is_bare_name s) n ∙ rw e refl), (λ n. go (is_bare_value s) n ∙ rw e refl))
    where
      go : (t : Bool) → (cond t s (quoted s) ≡ s → ⊥) → cond t s (quoted s) ≡ quoted s
      go true n = absurd (n refl)
      go false n = refl

-- a name with a double quote is never bare
has-double : (a b : List ℕ) → are_of (Not 34) (a ++ 34 ∷ b) ≡ false
unfolding are_of of_class
has-double [] b = refl
has-double (x ∷ a) b = rw (has-double a b) (and-false (not (eqb x 34)))

no_name : (a b : List ℕ) → EachName (a ++ 34 ∷ b) → ⊥
no_name [] b h = h.0.3 refl
no_name (x ∷ a) b h = no_name a b h.1

pub double-in-single : (a b : List ℕ) → let s = a ++ 34 ∷ b in name_text s ≡ 39 ∷ (s ++ 39 ∷ [])
double-in-single a b = let s = a ++ 34 ∷ b in (otherwise-single s (has-double a b)).0 (λ e. no_name a b ((name-bare-exact s).0 e).0)

-- a line with it bare means the same exactly if its bytes are such
module _ (d : Dialect) (name value : List ℕ) (p : is_name name ≡ true) (q : is_value value ≡ true) (r : is_allowed_setting name value ≡ true) where
  pub name-reads : (EachName name × StartsSetting name → line_items d (name ++ 61 ∷ value_text value) ≡ setting name value ∷ [])
      × (line_items d (name ++ 61 ∷ value_text value) ≡ setting name value ∷ [] → EachName name × StartsSetting name)
  name-reads = ((λ h. (name-exact d name value p q r).0 ((name-bare-exact name).1 h)), (λ e. (name-bare-exact name).0 ((name-exact d name value p q r).1 e)))

  pub value-reads : (StartsValue value × EndsValue value → line_items d (name_text name ++ 61 ∷ value) ≡ setting name value ∷ [])
      × (line_items d (name_text name ++ 61 ∷ value) ≡ setting name value ∷ [] → StartsValue value × EndsValue value)
  value-reads = ((λ h. (value-exact d name value p q r).0 ((value-bare-exact value).1 h)), (λ e. (value-bare-exact value).0 ((value-exact d name value p q r).1 e)))
