-- A line of the rising dialect, with nothing that wraps: `first-line-same` of proofs/Theorems says that the wrapping dialect changes
-- nothing in it (T8).
-- Assumes nothing.
use Rattle.std.specs.Prelude.{ℕ, ◌+◌, Bool, true, false, cond, List, [], ◌∷◌, length, get_or, leb, eqb, ltb, Some, None, Option, Ok, Err, Result}
use Rattle.octets.specs.declared.class.Class.TheVariants.{Blank, Solid, InLine}
use Rattle.octets.specs.Runs.{skipped, between}
use Rattle.field.specs.declared.Limits.{Limits}
use Rattle.field.specs.Limits.{minute_limits, hour_limits, day_limits, month_limits, weekday_limits}
use Rattle.field.specs.FirstDialect.{first_field}
use Rattle.line.specs.declared.Kind.{Kind}
use Rattle.line.specs.declared.time.When.TheVariants.{Reboot, Timed}
use Rattle.line.specs.declared.time.Field.{Field}
use Rattle.line.specs.declared.time.Time.{Time}
use Rattle.line.specs.declared.time.When.{When}
use Rattle.line.specs.declared.Line.{Line}
use Rattle.line.specs.declared.Line.TheVariants as line
use Rattle.line.specs.Limits.{max_line}
use Rattle.line.specs.Refusals.{too_few_fields, line_too_long}
use Rattle.line.specs.Assignments.{setting_at}
use Rattle.line.specs.Times.{time_of, answered, schedule_of, after}
use Rattle.line.specs.Words.{same, Meaning, reboot, fields, Named, meanings, known, after_word}
use Rattle.line.specs.Entries.{at_sign, with_command, with_user, by_kind}
use Rattle.line.specs.Lines.{hash, starts_entry, byte_fault}
use Rattle.field.specs.declared.Fault.{Fault}

-- ---- a time: the five fields, or a word

-- E3, R4: one field, at a place
unfoldable pub first_field_at : Limits → List ℕ → ℕ → Result Field Fault
first_field_at l s at =
    let end = skipped Solid s at in
    cond (leb (length s) at)
    (Err (record { refusal = too_few_fields; column = length s + 1 }))
    (answered (first_field l (at + 1) (between s at end)) (skipped Blank s end))

-- E2, R31: the five fields
unfoldable pub first_fields_at : List ℕ → ℕ → Result Time Fault
first_fields_at s at =
    after (first_field_at minute_limits s at)
    (λ minute. after (first_field_at hour_limits s minute.next)
    (λ hour. after (first_field_at day_limits s hour.next)
    (λ day. after (first_field_at month_limits s day.next)
    (λ month. after (first_field_at weekday_limits s month.next)
    (λ weekday. time_of (Timed (schedule_of minute hour day month weekday)) weekday.next)))))

-- E4: what a word means
unfoldable pub first_word_for : Meaning → Option When
first_word_for reboot = Some Reboot
first_word_for (fields s) = known (first_fields_at s 0)

-- E4: this word's meaning, or another's
unfoldable pub first_chosen : Bool → Meaning → Option When → Option When
first_chosen true m other = first_word_for m
first_chosen false m other = other

-- E4: a word in a list of words
unfoldable pub first_word_in : List Named → List ℕ → Option When
first_word_in [] s = None
first_word_in (n ∷ ns) s = let later = first_word_in ns s in first_chosen (same s n.word) n.meaning later

-- E4, R10: the word that starts at a place
unfoldable pub first_word_at : List ℕ → ℕ → Result Time Fault
first_word_at s at =
    let end = skipped Solid s at in
    after_word at (skipped Blank s end) (first_word_in meanings (between s at end))

-- E2: a word or five fields
unfoldable pub first_time_at : List ℕ → ℕ → Result Time Fault
first_time_at s at = cond (eqb (get_or s at 0) at_sign) (first_word_at s at) (first_fields_at s at)

-- ---- a line

-- E1, T8: an entry after its time
unfoldable pub first_after_time : Kind → List ℕ → Result Time Fault → Result Line Fault
first_after_time kind s (Err f) = Err f
first_after_time kind s (Ok t) = by_kind kind (with_command s t.when t.next) (with_user s t.when t.next)

-- T6: by its first byte that isn't blank
unfoldable pub first_content : Kind → List ℕ → Result Line Fault
first_content kind s =
    let at = skipped Blank s 0 in
    cond (leb (length s) at)
    (Ok line.Ignored)
    (cond (eqb (get_or s at 0) hash)
    (Ok line.Ignored)
    (cond (starts_entry (get_or s at 0)) (first_after_time kind s (first_time_at s at)) (setting_at s at)))

-- T6, R30: what a line is
unfoldable pub first_line : Kind → List ℕ → Result Line Fault
first_line kind s =
    cond (ltb max_line (length s))
    (Err (record { refusal = line_too_long; column = max_line + 1 }))
    (cond (ltb (skipped InLine s 0) (length s)) (Err (byte_fault s)) (first_content kind s))
