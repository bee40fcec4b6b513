-- `test_calls::schedules::offset_of` meets its contract.
-- Assumes nothing.
use mathlib.Core.Path.{◌≡◌, refl, sym, ◌∙◌}
use mathlib.Core.Bool.{Bool, true, false, ◌||◌}
use native.Mathlib.Omega.{arith}
use lib.Dec.{ltb}
use lib.IntN.{ℤ, pos, negsuc}
use lib.Signed.{lt_z}
use mir.Facts.{to_z-of_z}
use borrow.Author.Tests.{ltb-false}
use Rattle.schedule.specs.Local.{OffsetInRange}
use Rattle.schedule.proofs.Offsets.{passed}
use Rattle.test_calls.specs.Schedules.{offset_of}
use Rattle.test_calls.proofs.schedules.offset_of.Goals as goal

abbrev outside : ℤ → Bool
outside z = lt_z z (negsuc 719) || lt_z (pos 840) z

inside : (z : ℤ) → outside z ≡ false → OffsetInRange z
inside (pos n) e = omega (arith, ltb-false 840 n e)
inside (negsuc n) e = omega (arith, ltb-false 719 n (first (ltb 719 n) e))
  where
    first : (b : Bool) → (b || false) ≡ false → b ≡ false
    first true e = e
    first false e = e

pub returns-then-offset : goal.returns-then-offset
unfolding offset_of
returns-then-offset c = record { value = rw (sym (passed outside c.ranges.offset) ∙ c.if-offset.true) refl; zone = omega arith }

pub returns : goal.returns
unfolding offset_of
returns c =
    let f = c.ranges.offset in
    let e = sym (passed outside f) ∙ c.if-offset.false in
    record { value = rw (to_z-of_z f, e) refl; zone = rw (to_z-of_z f) (inside c.args.offset e) }
