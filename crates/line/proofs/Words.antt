-- Laws of the `@` words.
-- Assumes nothing.
use Rattle.std.specs.Prelude.{bytes_eq, Some, None, Option}
use mathlib.Core.Path.{◌≡◌, refl, sym}
use mathlib.Core.Bool.{Bool, true, false}
use mathlib.Core.List.{List, [], ◌∷◌}
use Prim.Native.Nat.{ℕ}
use Rattle.line.specs.declared.time.When.{When}
use Rattle.line.specs.declared.time.When.TheVariants.{Timed}
use Rattle.line.specs.Words.{same, fields, Named, word_for, chosen, word_in}
use Rattle.line.specs.Computing.{reading}
use Rattle.octets.specs.Texts.{text}

-- `==` of two runs of bytes
pub same_bytes : (s word : List ℕ) → bytes_eq s word ≡ same s word
unfolding same
same_bytes [] [] = refl
same_bytes (b ∷ s) (x ∷ word) = rw (same_bytes s word)
same_bytes [] (x ∷ word) = refl
same_bytes (b ∷ s) [] = refl

-- a row of words, from its first
pub row-none : (s : List ℕ) → None ≡ word_in [] s
unfolding word_in
row-none s = refl

pub row_here : (s : List ℕ) (n : Named) (ns : List Named) {r : Option When} → word_for n.meaning ≡ r → same s n.word ≡ true → r ≡ word_in (n ∷ ns) s
unfolding word_in chosen
row_here s n ns k e = rw e (sym k)

pub row_later : (s : List ℕ) (n : Named) (ns : List Named) {r : Option When} → same s n.word ≡ false → r ≡ word_in ns s → r ≡ word_in (n ∷ ns) s
unfolding word_in chosen
row_later s n ns e f = rw e f

-- The words' schedules, as the numbers that the code has: what their fields read to.
module _ (minutes hours days months weekdays : ℕ) (hour day month weekday : Bool) where
  abbrev timed : Option When
  timed =
      Some
      (Timed
      (record {
        minutes = minutes;
        hours = hours;
        days = days;
        months = months;
        weekdays = weekdays;
        stars = record { minutes = false; hours = hour; days = day; months = month; weekdays = weekday };
      }))

pub word-meanings :
    (word_for (fields (text "0 0 1 1 *")) ≡ timed 1 1 2 2 127 false false false true)
    × (word_for (fields (text "0 0 1 * *")) ≡ timed 1 1 2 8190 127 false false true true)
    × (word_for (fields (text "0 0 * * 0")) ≡ timed 1 1 4294967294 8190 1 false true true false)
    × (word_for (fields (text "0 0 * * *")) ≡ timed 1 1 4294967294 8190 127 false true true true)
    × (word_for (fields (text "0 * * * *")) ≡ timed 1 16777215 4294967294 8190 127 true true true true)
unfolding reading
word-meanings = (refl, refl, refl, refl, refl)
