-- `schedule::day::month_set` meets its contract.
-- Assumes nothing.
use Prim.Native.Nat.{◌*◌}
use native.Mathlib.Omega.{arith}
use lib.Bits.{bit_and, and_le_r}
use lib.Pow.{shr_le}
use Rattle.schedule.specs.Days.{weekly, month_set}
use Rattle.schedule.proofs.day.month_set.Goals as goal

pub overflow_cast-weekly : goal.overflow_cast-weekly
overflow_cast-weekly c = omega (arith, and_le_r c.args.s.weekdays 127)

pub overflow_mul-weekly : goal.overflow_mul-weekly
overflow_mul-weekly c = omega (arith, and_le_r c.args.s.weekdays 127)

pub overflow_mul-by_weekday : goal.overflow_mul-by_weekday
overflow_mul-by_weekday c = let a = c.args in
    omega (arith, and_le_r a.s.weekdays 127, shr_le (bit_and a.s.weekdays 127 * 34630287489) a.weekday)

pub returns-then-both_must : goal.returns-then-both_must
unfolding month_set weekly
returns-then-both_must c = rw (← c.both_must.ensures, c.if-both_must.true)

pub returns : goal.returns
unfolding month_set weekly
returns c = rw (← c.both_must.ensures, c.if-both_must.false)
