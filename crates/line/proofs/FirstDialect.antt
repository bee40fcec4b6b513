-- In the first dialect a line is read as it was before there was a second.
-- Assumes nothing.
use Rattle.std.specs.Prelude.{Option, Ok, Err, Result}
use mathlib.Core.Path.{◌≡◌, refl, ap}
use mathlib.Core.Bool.{Bool, true, false}
use mathlib.Core.List.{List, [], ◌∷◌}
use Prim.Native.Nat.{ℕ, ◌+◌}
use Rattle.octets.specs.declared.class.Class.TheVariants.{Blank, Solid}
use Rattle.octets.specs.Runs.{skipped, between}
use Rattle.field.specs.declared.Dialect.TheVariants.{Rising}
use Rattle.field.specs.declared.Limits.{Limits}
use Rattle.field.specs.Limits.{minute_limits, hour_limits, day_limits, month_limits, weekday_limits, in_dialect}
use Rattle.field.proofs.Theorems.{Plain, minute-plain, hour-plain, day-plain, month-plain, weekday-plain}
use Rattle.field.proofs.Theorems as field-theorems
use Rattle.line.specs.declared.Kind.{Kind}
use Rattle.line.specs.declared.Rules.{Rules}
use Rattle.line.specs.declared.time.Field.{Field}
use Rattle.line.specs.declared.time.Time.{Time}
use Rattle.line.specs.declared.time.When.{When}
use Rattle.line.specs.Times.{field_at, after, fields_at}
use Rattle.line.specs.Words.{same, Meaning, reboot, fields, Named, meanings, known, word_for, chosen, word_in, word_of, word_at}
use Rattle.line.specs.Entries.{time_at, after_time, entry_at}
use Rattle.line.specs.Lines.{content_from, content_of, read_line}
use Rattle.line.specs.FirstDialect.{first_field_at, first_fields_at, first_word_for, first_chosen, first_word_in, first_word_at, first_time_at, first_after_time, first_content, first_line}
use Rattle.field.specs.declared.Fault.{Fault}

-- ---- a time

module _ (s : List ℕ) where
  field-first : (l : Limits) → Plain l → (at : ℕ) → field_at (in_dialect Rising l) s at ≡ first_field_at l s at
  unfolding field_at first_field_at
  field-first l p at = rw (field-theorems.first-dialect-same l p (at + 1) (between s at (skipped Solid s at)))

  after_first : (f g : Result Field Fault) (later first : Field → Result Time Fault) → f ≡ g → ((v : Field) → later v ≡ first v) → after f later ≡ after g first
  unfolding after
  after_first f g later first e h = rw e (go g)
    where
      go : (g : Result Field Fault) → after g later ≡ after g first
      go (Err f) = refl
      go (Ok values) = h values

  fields-first : (at : ℕ) → fields_at Rising s at ≡ first_fields_at s at
  unfolding fields_at first_fields_at
  fields-first at =
      after_first _ _ _ _ (field-first minute_limits minute-plain at)
      (λ minute. after_first _ _ _ _ (field-first hour_limits hour-plain minute.next)
      (λ hour. after_first _ _ _ _ (field-first day_limits day-plain hour.next)
      (λ day. after_first _ _ _ _ (field-first month_limits month-plain day.next)
      (λ month. after_first _ _ _ _ (field-first weekday_limits weekday-plain month.next) (λ weekday. refl)))))

meaning-first : (m : Meaning) → word_for m ≡ first_word_for m
unfolding word_for first_word_for
meaning-first reboot = refl
meaning-first (fields s) = ap known (fields-first s 0)

chosen-first : (t : Bool) (m : Meaning) (other : Option When) → chosen t m other ≡ first_chosen t m other
unfolding chosen first_chosen
chosen-first true m other = meaning-first m
chosen-first false m other = refl

word_first : (ns : List Named) (s : List ℕ) → word_in ns s ≡ first_word_in ns s
unfolding word_in first_word_in
word_first [] s = refl
word_first (n ∷ ns) s = rw (word_first ns s) (chosen-first (same s n.word) n.meaning (first_word_in ns s))

time-first : (s : List ℕ) (at : ℕ) → time_at Rising s at ≡ first_time_at s at
unfolding time_at first_time_at word_at word_of first_word_at
time-first s at = rw (word_first meanings (between s at (skipped Solid s at)), fields-first s at)

-- ---- a line

module _ (kind : Kind) where
  abbrev rising : Rules
  rising = record { kind = kind; dialect = Rising }

  behind-first : (s : List ℕ) (t : Result Time Fault) → after_time rising s t ≡ first_after_time kind s t
  unfolding after_time first_after_time
  behind-first s (Err f) = refl
  behind-first s (Ok t) = refl

  content-first : (s : List ℕ) → content_of rising s ≡ first_content kind s
  unfolding content_of content_from first_content entry_at
  content-first s =
      let at = skipped Blank s 0 in
      rw (time-first s at, behind-first s (first_time_at s at))

  pub first-line-same : (s : List ℕ) → read_line (record { kind = kind; dialect = Rising }) s ≡ first_line kind s
  unfolding read_line first_line
  first-line-same s = rw (content-first s)
