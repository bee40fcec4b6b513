-- The `@` words (E4).
-- Assumes nothing.
use Rattle.std.specs.Prelude.{ℕ, ◌+◌, Bool, true, false, ◌&&◌, List, [], ◌∷◌, eqb, Some, None, Option, Ok, Err, Result}
use Rattle.octets.specs.Texts.{text}
use Rattle.octets.specs.declared.class.Class.TheVariants.{Blank, Solid}
use Rattle.octets.specs.Runs.{skipped, between}
use Rattle.line.specs.declared.time.When.TheVariants.{Reboot}
use Rattle.line.specs.declared.time.Time.{Time}
use Rattle.line.specs.declared.time.When.{When}
use Rattle.line.specs.Refusals.{unknown_word}
use Rattle.field.specs.declared.Dialect.TheVariants.{Rising}
use Rattle.line.specs.Times.{time_of, fields_at}
use Rattle.field.specs.declared.Fault.{Fault}

-- E4: the same bytes, letter case included
unfoldable pub same : List ℕ → List ℕ → Bool
same [] [] = true
same (b ∷ s) (x ∷ word) = eqb b x && same s word
same [] (x ∷ word) = false
same (b ∷ s) [] = false

-- ---- the words

-- E4: what a word means
pub data Meaning : Type 0 where
  reboot : Meaning
  fields : List ℕ → Meaning

-- E4: a word and its meaning
pub record Named : Type 0 where
  pub word : List ℕ
  pub meaning : Meaning

-- E4: all words
unfoldable pub meanings : List Named
meanings =
    record { word = text "@reboot"; meaning = reboot }
    ∷ record { word = text "@yearly"; meaning = fields (text "0 0 1 1 *") }
    ∷ record { word = text "@annually"; meaning = fields (text "0 0 1 1 *") }
    ∷ record { word = text "@monthly"; meaning = fields (text "0 0 1 * *") }
    ∷ record { word = text "@weekly"; meaning = fields (text "0 0 * * 0") }
    ∷ record { word = text "@daily"; meaning = fields (text "0 0 * * *") }
    ∷ record { word = text "@midnight"; meaning = fields (text "0 0 * * *") }
    ∷ record { word = text "@hourly"; meaning = fields (text "0 * * * *") }
    ∷ []

-- E4: five fields mean what they are read to in the rising dialect, so a word means the same in both
unfoldable pub known : Result Time Fault → Option When
known (Ok t) = Some t.when
known (Err fault) = None

-- E4: what a word's meaning is read to
unfoldable pub word_for : Meaning → Option When
word_for reboot = Some Reboot
word_for (fields s) = known (fields_at Rising s 0)

-- E4: this word's meaning, or another's
unfoldable pub chosen : Bool → Meaning → Option When → Option When
chosen true m other = word_for m
chosen false m other = other

-- E4: a word in a list of words
unfoldable pub word_in : List Named → List ℕ → Option When
word_in [] s = None
word_in (n ∷ ns) s = let later = word_in ns s in chosen (same s n.word) n.meaning later

-- E4: any bytes as a word
unfoldable pub word_of : List ℕ → Option When
word_of s = word_in meanings s

-- ---- a word at a place: the whole run of bytes that aren't blank

-- R10: at the `@`
unfoldable pub after_word : ℕ → ℕ → Option When → Result Time Fault
after_word at next None = Err (record { refusal = unknown_word; column = at + 1 })
after_word at next (Some when) = time_of when next

-- E3, E4: the word that starts at a place
unfoldable pub word_at : List ℕ → ℕ → Result Time Fault
word_at s at =
    let end = skipped Solid s at in
    after_word at (skipped Blank s end) (word_of (between s at end))
