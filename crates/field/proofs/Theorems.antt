-- What a caller may rely on, over the limits.
-- The wrapping dialect. A range from high to low runs to the field's last value and on from its first, the step counting on (W1):
--   values-members: a value is in a range exactly if it is no further from its begin than its end is, going on from the last value to the first,
--     and a multiple of the step
-- R7 is never given (W6):
--   field-wraps: never for a field whose ranges wrap
-- "In the first dialect nothing changes":
--   first-dialect-same: a field is read in it as it was before there was a second
-- "The normal writer's output reads the same in either":
--   field-proper, field_back: what is read in either dialect may be written, and what may be written is read back in either
-- Of a field's set:
--   set-members: a bit is set exactly if it is the bit of a value of one of the elements
--   set-fits: the width of the set
--   set-within: it has only values of the limits
--   star-flag: the flag says just that the field begins with `*`
--   star-full: a plain `*` has every value of the limits
--   field-number: a refusal is 5 to 8
-- Of any bytes, in either dialect, so that a field of any length has no other reading:
--   field-joined, star-first, star-later: a comma list is its elements, and a `*` stands alone (Composition)
--   field-element, element-single, element-range, element-step, range-text: a field with no comma is one element, and its three texts (ElementForms)
--   number_digits, number-none, number-long, number-other, value-joined: the number that digits are, and that nothing else is one
--   range-values, range-exact, rising-values, wrapping-values: a range is accepted within its limits, and has exactly these values (RangeValues)
--   range-outside, range-reversed, range-zero: and otherwise has 6, 7 or 8, in numbers of any size (ElementRefusals)
--   star-alone, star-stepped, star-zero, star-malformed, star-other, star-values: a field that begins with `*` (StarFields)
--   alike-exact, name-any-case, month-exact, weekday-exact: a name in any letter case, and no other bytes (NameTexts)
--   sunday-exact, end-named, end-numbered, upper-wraps, upper-week, upper-plain: the ends of a range, by their bytes (NameEnds)
--   form-in-both, same-in-both: what both dialects read alike (BothDialects)
-- Of the text of a set and a star flag (P4, P5), over usual limits, as the five fields have:
--   field_fits: what may be written has no bit past the field's
--   shortest-step, plain-star: a flagged field has the smallest step that gives the set, and is `*` just where that is 1
--   list-field, list-one, list-more, members-exact, members-rise, number_short, number-two: an unflagged field has all values of the set, rising, with a
--     comma between (WrittenLists)
--   field-bytes, field-solid, field-begins, field-length: its bytes, none of them blank, its first byte, and how many there are at most
-- Assumes nothing.
use mathlib.Core.Path.{◌≡◌, ap, ◌∙◌}
use mathlib.Core.Bool.{Bool, true}
use mathlib.Core.List.{List, [], ◌∷◌, map, append-nil}
use Prim.Native.Nat.{ℕ, ◌-◌, ◌≤◌, ◌<◌}
use native.Mathlib.Nat.{mod-one}
use native.Mathlib.Omega.{arith}
use borrow.Author.Tests.{le-leb}
use Rattle.octets.specs.Sets.{has_bit}
use Rattle.field.specs.declared.Limits.{Limits}
use Rattle.field.specs.Values.{values_of, range_of, bit_of}
use Rattle.field.specs.Fields.{star_element, read_field}
use Rattle.field.specs.Members.{is_in, is_step, is_star, elements_of, element_bits, bits_of}
use Rattle.field.proofs.Views.{read-values}
use Rattle.field.proofs.Members.{steps-members, map-in}
use Rattle.field.proofs.Steps.{last-rising}
use Rattle.field.specs.Judgement.{means}
pub use Rattle.field.proofs.Members.{set-members}
pub use Rattle.field.proofs.Accepted.{Accepted}
pub use Rattle.field.proofs.Ranges.{values-members}
pub use Rattle.field.proofs.SetBounds.{set-fits, Within, set-within}
pub use Rattle.field.proofs.Views.{RefusedIn, refused, FieldView, field-view, field-number, field-wraps}
pub use Rattle.field.proofs.UsualLimits.{Usual, minute-usual, hour-usual, day-usual, month-usual, weekday-usual, dialect-usual, dialect-bits}
pub use Rattle.field.proofs.RoundTrip.{field_fits, Shortest, shortest-step, plain-star}
pub use Rattle.field.proofs.Dialects.{field-proper, field_back}
pub use Rattle.field.proofs.FirstDialect.{Plain, first-dialect-same, minute-plain, hour-plain, day-plain, month-plain, weekday-plain}
pub use Rattle.field.proofs.Composition.{followed, is_malformed, together, field-joined, star-first, star-later}
pub use Rattle.field.proofs.ElementForms.{field-element, element-single, element-range, element-step, range-text, value-joined, number_digits, number-none, number-long, number-other}
pub use Rattle.field.proofs.RangeValues.{range-values, range-exact, rising-values, wrapping-values}
pub use Rattle.field.proofs.ElementRefusals.{Outside, Inside, range-outside, range-reversed, range-zero}
pub use Rattle.field.proofs.StarFields.{star-alone, star-stepped, star-zero, star-malformed, star-other, star-values}
pub use Rattle.field.proofs.NameTexts.{alike-exact, name-any-case, Named, month-exact, weekday-exact}
pub use Rattle.field.proofs.BothDialects.{RisesBelow, EachBelow, SundayBits, form-in-both, same-in-both, minute-sunday, hour-sunday, day-sunday, month-sunday, weekday-sunday}
pub use Rattle.field.proofs.WrittenLists.{Rises, list-field, list-one, list-more, members-exact, members-rise, number_short, number-two}
pub use Rattle.field.proofs.TextBytes.{FieldByte, field-bytes, field-solid, Begins, field-begins, field-length}

-- ---- a plain `*`

module _ (l : Limits) (column : ℕ) where
  -- the flag says just that the field begins with `*`
  pub star-flag : (s : List ℕ) {set : ℕ} {star : Bool} → read_field l column s ≡ means set star → star ≡ is_star s
  star-flag s q = (read-values l column s q).flag

  -- a plain `*` has every value of the limits
  pub star-full : {set : ℕ} {star : Bool} → read_field l column (42 ∷ []) ≡ means set star
      → (v : ℕ) → l.first ≤ v → v ≤ l.last → bit_of l v < 64 → has_bit set (bit_of l v) ≡ true
  unfolding elements_of star_element bits_of element_bits is_step range_of
  star-full e v h k b =
      set-members (bit_of l v) b l column (42 ∷ []) e
      ∙ ap (is_in (bit_of l v)) (append-nil (map (bit_of l) (range_of l l.first l.last 1)))
      ∙ ap (λ (last : ℕ). is_in (bit_of l v) (map (bit_of l) (values_of l.first last 1))) (last-rising l l.first l.last (omega arith))
      ∙ map-in (bit_of l) v (values_of l.first l.last 1)
      (steps-members l.first l.last 1 v (omega arith) (omega arith)
      ∙ rw (le-leb l.first v h, le-leb v l.last k, mod-one (v - l.first)))
