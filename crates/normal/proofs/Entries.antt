-- Entries that are read: time and command are proper ones, whatever the line's length.
-- Assumes nothing.
use mathlib.Core.Path.{◌≡◌, ap}
use mathlib.Core.Bool.{Bool, true, false}
use mathlib.Core.List.{List, [], ◌∷◌}
use Prim.Native.Nat.{ℕ, ◌≤◌, ◌<◌}
use native.Mathlib.Omega.{arith}
use lib.ListN.{length, get_or, length-drop}
use borrow.Author.Tests.{le-leb}
use Rattle.octets.specs.declared.class.Class.TheVariants.{InLine}
use Rattle.octets.specs.Classes.{is_blank}
use Rattle.octets.specs.Runs.{are_of, between}
use Rattle.octets.proofs.Runs.{trimmed-whole}
use Rattle.octets.proofs.Places.{are-between, between_first}
use Rattle.field.specs.declared.Limits.{Limits}
use Rattle.field.specs.Written.{is_field}
use Rattle.field.proofs.Theorems.{Usual, minute-usual, hour-usual, day-usual, month-usual, weekday-usual, field-proper}
use Rattle.line.specs.declared.time.When.{When}
use Rattle.line.specs.declared.time.When.TheVariants.{Reboot, Timed}
use Rattle.line.proofs.Theorems.{FromField, WhenView}
use Rattle.normal.specs.Meanings.{entry_item}
use Rattle.normal.specs.Proper.{is_command, is_schedule, is_item, are_items}

-- sets that fields are read to can be written back
field_is : {l : Limits} {set : ℕ} {star : Bool} → Usual l → FromField l set star → is_field l set star ≡ true
field_is {l} u f = field-proper l u f.dialect f.column f.bytes f.values

pub entry-items : (when : When) (c : List ℕ) → WhenView when → is_command c ≡ true → are_items (entry_item when c ∷ []) ≡ true
unfolding are_items is_item entry_item is_schedule
entry-items Reboot c h k = rw k
entry-items (Timed x) c h k =
    rw (field_is minute-usual h.minutes, field_is hour-usual h.hours, field_is day-usual h.days, field_is month-usual h.months, field_is weekday-usual h.weekdays, k)

-- a command that starts with a byte that isn't blank
pub command-proper : (s : List ℕ) → are_of InLine s ≡ true → (next : ℕ) → next < length s → is_blank (get_or s next 0) ≡ false
    → is_command (between s next (length s)) ≡ true
unfolding is_command
command-proper s clean next h e =
    let size : 1 ≤ length (between s next (length s)) = omega (arith, ap length (trimmed-whole s next), length-drop next s) in
    rw (le-leb 1 (length (between s next (length s))) size, are-between InLine s next (length s) clean, between_first s next (length s) h, e)
