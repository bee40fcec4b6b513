-- A line's parts, however long they are and however many blanks are between them: "leading blanks are skipped", "five fields, each a run of non-blank
-- bytes, blanks after each", "name, optional blanks, `=`, optional blanks, value", "a quoted name runs to the next quote of its kind". Each says what is read
-- at a place by the bytes that are there, for any bytes.
-- Assumes nothing.
use mathlib.Core.Path.{◌≡◌, refl, sym, ap, ◌∙◌}
use mathlib.Core.Bool.{true, false, and-eq-true_iff}
use mathlib.Core.List.{List, [], ◌∷◌, ◌++◌}
use Prim.Native.Nat.{ℕ, ◌+◌}
use native.Mathlib.Omega.{arith}
use lib.ListN.{length, drop}
use borrow.Author.Tests.{lt-leb, lt-ltb}
use Rattle.octets.specs.declared.class.Class.TheVariants.{Blank, Solid, Name, Not}
use Rattle.octets.specs.Runs.{run, are_of, skipped, trimmed}
use Rattle.octets.specs.Classes.{is_blank, is_quote, of_class}
use Rattle.octets.proofs.Places.{Stands, drop_past, between-here, skipped-here, byte-here, within-here}
use Rattle.field.specs.declared.Limits.{Limits}
use Rattle.field.specs.Fields.{read_field}
use Rattle.line.specs.declared.Rules.{Rules}
use Rattle.line.specs.Times.{answered, field_at}
use Rattle.line.specs.Words.{word_of, after_word, word_at}
use Rattle.line.specs.Assignments.{found, quoted_at, non_empty, name_at, value_at, after_equals, after_name, setting_at}
use Rattle.line.specs.Lines.{content_from, content_of}

-- ---- leading blanks

pub leading-blanks : (rules : Rules) (b : List ℕ) (x : ℕ) (r : List ℕ) → are_of Blank b ≡ true → run Blank (x ∷ r) ≡ 0
    → content_of rules (b ++ (x ∷ r)) ≡ content_from rules (b ++ (x ∷ r)) (length b) x
unfolding content_of
leading-blanks rules b x r blank stops =
    let there : Stands (b ++ (x ∷ r)) 0 b (x ∷ r) = record { is = refl } in
    let at : skipped Blank (b ++ (x ∷ r)) 0 ≡ length b = skipped-here there Blank blank stops ∙ omega arith in
    let first : Stands (b ++ (x ∷ r)) (length b) (x ∷ []) r = record { is = drop_at there } in
    rw (at, lt-leb (length (b ++ (x ∷ r))) (length b) (within-here first), byte-here first)
  where
    drop_at : Stands (b ++ (x ∷ r)) 0 b (x ∷ r) → drop (length b) (b ++ (x ∷ r)) ≡ (x ∷ []) ++ r
    drop_at there = let e : 0 + length b ≡ length b = omega arith in ap (λ (n : ℕ). drop n (b ++ (x ∷ r))) (sym e) ∙ drop_past there

-- ---- a field or a word, and blanks after it, or the line's end

module _ {s : List ℕ} {at : ℕ} {x : ℕ} {f : List ℕ} (b r : List ℕ) (here : Stands s at (x ∷ f) (b ++ r))
    (solid : are_of Solid (x ∷ f) ≡ true) (ends : run Solid (b ++ r) ≡ 0) (blank : are_of Blank b ≡ true) (stops : run Blank r ≡ 0) where
  gap : Stands s (at + length (x ∷ f)) b r
  gap = record { is = drop_past here }

  pub field-spaced : (l : Limits) → field_at l s at ≡ answered (read_field l (at + 1) (x ∷ f)) (at + length (x ∷ f) + length b)
  unfolding field_at
  field-spaced l = rw (lt-leb (length s) at (within-here here), skipped-here here Solid solid ends, between-here here, skipped-here gap Blank blank stops)

  pub word-spaced : word_at s at ≡ after_word at (at + length (x ∷ f) + length b) (word_of (x ∷ f))
  unfolding word_at
  word-spaced = rw (skipped-here here Solid solid ends, between-here here, skipped-here gap Blank blank stops)

  -- and what follows begins after them
  pub after-spaced : drop (at + length (x ∷ f) + length b) s ≡ r
  after-spaced = drop_past gap

-- ---- quotes: any bytes but the quote itself

pub quoted-whole : {s : List ℕ} {at q : ℕ} {t r : List ℕ} → Stands s at (q ∷ t) (q ∷ r) → are_of (Not q) t ≡ true → run (Not q) (q ∷ r) ≡ 0
    → quoted_at s at ≡ found (record { start = at + 1; end = at + 1 + length t }) (at + 1 + length t + 1)
unfolding quoted_at
quoted-whole {s} {at} {q} {t} {r} here inside stops =
    let first : Stands s at (q ∷ []) (t ++ (q ∷ r)) = record { is = here.is } in
    let text : Stands s (at + 1) t (q ∷ r) = record { is = drop_past first } in
    let last : Stands s (at + 1 + length t) (q ∷ []) r = record { is = drop_past text } in
    rw (byte-here here, skipped-here text (Not q) inside stops, lt-ltb (at + 1 + length t) (length s) (within-here last))

-- ---- a value that isn't quoted: blanks at the line's end are no part of it

blanks-trimmed : (b : List ℕ) → are_of Blank b ≡ true → trimmed b ≡ 0
unfolding trimmed are_of of_class
blanks-trimmed [] h = refl
blanks-trimmed (x ∷ b) h =
    let both = (and-eq-true_iff (is_blank x) (are_of Blank b)).0 h in
    rw (both.0, blanks-trimmed b both.1)

trimmed-end : (v b : List ℕ) → are_of Blank b ≡ true → trimmed (v ++ b) ≡ trimmed v
unfolding trimmed
trimmed-end [] b h = blanks-trimmed b h
trimmed-end (x ∷ v) b h = rw (trimmed-end v b h)

pub value-spaced : {s : List ℕ} {at x : ℕ} {v b : List ℕ} → Stands s at (x ∷ v) b → is_quote x ≡ false → are_of Blank b ≡ true
    → value_at s at ≡ found (record { start = at; end = at + trimmed (x ∷ v) }) (length s)
unfolding value_at
value-spaced {v = v} {b = b} here bare blank = rw (byte-here here, bare, here.is, trimmed-end (_ ∷ v) b blank)

-- ---- a bare name, `=` and a value, with blanks around `=`

module _ {s : List ℕ} {at : ℕ} {x : ℕ} {n : List ℕ} (a b r : List ℕ) (here : Stands s at (x ∷ n) (a ++ (61 ∷ (b ++ r))))
    (name : are_of Name (x ∷ n) ≡ true) (ends : run Name (a ++ (61 ∷ (b ++ r))) ≡ 0) (bare : is_quote x ≡ false)
    (before : are_of Blank a ≡ true) (equals : run Blank (61 ∷ (b ++ r)) ≡ 0) (after : are_of Blank b ≡ true) (stops : run Blank r ≡ 0) where
  pub name-whole : name_at s at ≡ found (record { start = at; end = at + length (x ∷ n) }) (at + length (x ∷ n))
  unfolding name_at non_empty
  name-whole = rw (skipped-here here Name name ends, byte-here here, bare, lt-ltb at (at + length (x ∷ n)) (omega arith))

  pub setting-spaced : setting_at s at
      ≡ after_equals s at (at + length (x ∷ n) + length a + 1 + length b) (record { start = at; end = at + length (x ∷ n) }) (value_at s (at + length (x ∷ n) + length a + 1 + length b))
  unfolding setting_at after_name
  setting-spaced =
      let gap : Stands s (at + length (x ∷ n)) a (61 ∷ (b ++ r)) = record { is = drop_past here } in
      let sign : Stands s (at + length (x ∷ n) + length a) (61 ∷ []) (b ++ r) = record { is = drop_past gap } in
      let later : Stands s (at + length (x ∷ n) + length a + 1) b r = record { is = drop_past sign } in
      rw (name-whole, skipped-here gap Blank before equals, byte-here sign, skipped-here later Blank after stops)
