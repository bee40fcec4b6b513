-- The bytes that have a meaning, and no others: the eight words, and the name `CRON_TZ`. Of any bytes, so of every letter in them.
-- Assumes nothing.
use Rattle.std.specs.Prelude.{Some, None, Option, ℤ, Ok}
use mathlib.Core.Path.{◌≡◌, refl, sym, ap, ◌∙◌}
use mathlib.Core.Bool.{Bool, true, false, cond, and-eq-true_iff, true≢false}
use mathlib.Core.Logic.{◌⊎◌, inl, inr}
use mathlib.Core.List.{List, [], ◌∷◌}
use Prim.Native.Nat.{ℕ}
use lib.Dec.{eqb}
use borrow.Author.Tests.{eqb-true, eq-eqb}
use Rattle.octets.specs.Texts.{text}
use Rattle.line.specs.declared.Rules.{Rules}
use Rattle.line.specs.declared.Part.{Part}
use Rattle.line.specs.declared.time.When.{When}
use Rattle.line.specs.declared.Line.TheVariants.{Setting}
use Rattle.line.specs.Words.{same, Named, meanings, chosen, word_in, word_of}
use Rattle.line.specs.Offsets.{zone_name, offset_of, zone_of}
use Rattle.line.specs.Assignments.{part_bytes}
use Rattle.line.specs.Lines.{read_line}
use Rattle.line.proofs.LineViews.{setting-says}

-- the test is equality
pub same-is : (s word : List ℕ) → same s word ≡ true → s ≡ word
unfolding same
same-is [] [] e = refl
same-is (b ∷ s) (x ∷ word) e =
    let t = (and-eq-true_iff (eqb b x) (same s word)).0 e in
    rw (eqb-true b x t.0, same-is s word t.1)
same-is [] (x ∷ word) e = absurd (true≢false (sym e))
same-is (b ∷ s) [] e = absurd (true≢false (sym e))

pub same-itself : (s : List ℕ) → same s s ≡ true
unfolding same
same-itself [] = refl
same-itself (b ∷ s) = rw (eq-eqb b b refl) (same-itself s)

-- ---- the words

abbrev pub AnyOf : List ℕ → List (List ℕ) → Type 0
AnyOf s [] = ⊥
AnyOf s (word ∷ words) = (s ≡ word) ⊎ AnyOf s words

abbrev words_of : List Named → List (List ℕ)
words_of [] = []
words_of (n ∷ ns) = n.word ∷ words_of ns

abbrev is_known : Option When → Bool
is_known (Some when) = true
is_known None = false

known_in : (ns : List Named) (s : List ℕ) → is_known (word_in ns s) ≡ true → AnyOf s (words_of ns)
unfolding word_in chosen
known_in [] s e = absurd (true≢false (sym e))
known_in (n ∷ ns) s e = go (same s n.word) refl (known_in ns s) e
  where
    go : (t : Bool) → same s n.word ≡ t → (is_known (word_in ns s) ≡ true → AnyOf s (words_of ns))
        → is_known (chosen t n.meaning (word_in ns s)) ≡ true → AnyOf s (words_of (n ∷ ns))
    go true p later e = inl (same-is s n.word p)
    go false p later e = inr (later e)

-- "in this case only": what is known is one of the eight, byte by byte; `words` of specs/WordRows says what each of them means
pub known-word : (s : List ℕ) {when : When} → word_of s ≡ Some when
    → AnyOf s (text "@reboot" ∷ text "@yearly" ∷ text "@annually" ∷ text "@monthly" ∷ text "@weekly" ∷ text "@daily" ∷ text "@midnight" ∷ text "@hourly" ∷ [])
unfolding word_of meanings
known-word s e = known_in meanings s (ap is_known e)

-- ---- the name

-- a setting that is read changes the offset exactly if its name is `CRON_TZ`, byte by byte, whatever the rules
pub offset-name : (rules : Rules) (s : List ℕ) {name value : Part} {zone : Option ℤ} → read_line rules s ≡ Ok (Setting name value zone)
    → (part_bytes s name ≡ text "CRON_TZ" → zone ≡ Some (offset_of (part_bytes s value)))
    × ((part_bytes s name ≡ text "CRON_TZ" → ⊥) → zone ≡ None)
unfolding zone_of
offset-name rules s {name} {value} is = (
  (λ e. (setting-says rules s is).0 ∙ rw (e, same-itself zone_name) refl),
  (λ n. (setting-says rules s is).0 ∙ other (same (part_bytes s name) zone_name) refl n),
)
  where
    other : (t : Bool) → same (part_bytes s name) zone_name ≡ t → (part_bytes s name ≡ text "CRON_TZ" → ⊥)
        → cond t (Some (offset_of (part_bytes s value))) None ≡ None
    other true p n = absurd (n (same-is (part_bytes s name) zone_name p))
    other false p n = refl
