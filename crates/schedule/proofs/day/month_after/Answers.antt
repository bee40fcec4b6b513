-- `schedule::day::month_after` meets its contract: in the same year, in the next one, or none.
-- Assumes nothing.
use native.Mathlib.Omega.{arith}
use Rattle.octets.specs.Sets.{has_bit}
use Rattle.schedule.proofs.Search.{from-least}
use Rattle.schedule.proofs.NextMonths.{same-year, next-year, no-year}
use Rattle.schedule.proofs.day.month_after.Goals as goal

pub returns-then-later-lt13 : goal.returns-then-later-lt13
returns-then-later-lt13 c = let p = c.requires in
    same-year _ _ p.0 p.1 c.next-later.ensures c.if-later-lt13.true

pub overflow_add-found-2 : goal.overflow_add-found-2
overflow_add-found-2 c =
    let l = from-least (has_bit c.args.s.months) 13 1 (omega arith) in
    omega (arith, c.next.ensures, l.high)

pub returns-then-found-lt-LAST_MONTH : goal.returns-then-found-lt-LAST_MONTH
returns-then-found-lt-LAST_MONTH c = let p = c.requires in
    next-year _ _ p.0 p.1 c.next-later.ensures c.if-later-lt13.false c.next.ensures c.if-found-lt-LAST_MONTH.true

pub returns : goal.returns
returns c = let p = c.requires in
    no-year _ _ p.0 p.1 c.next-later.ensures c.if-later-lt13.false c.next.ensures c.if-found-lt-LAST_MONTH.false
