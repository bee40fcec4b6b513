-- `schedule::time::time_from` meets its contract: a search by two digits, hours of 60 minutes.
-- Assumes nothing.
use Prim.Native.Nat.{◌<◌}
use native.Mathlib.Omega.{arith}
use borrow.Author.Tests.{ltb-true}
use lib.Dec.{lit<}
use Rattle.calendar.proofs.Tests.{and-true}
use Rattle.octets.specs.Sets.{has_bit}
use Rattle.schedule.specs.Match.{matches_time, matches_at}
use Rattle.schedule.proofs.Search.{digits-here, digits-later, digits-none}
use Rattle.schedule.proofs.time.time_from.Goals as goal
use Rattle.schedule.proofs.time.time_from.Goals.{Then-has-minute, Then-later-first}

minute-small : (c : Then-has-minute) → c.next-minute.result < 60
minute-small c = ltb-true _ _ (and-true c.has.result _ c.if-has-minute.true).1

later-small : (c : Then-later-first) → (c.next-later.result < 24) × (c.next-first.result < 60)
later-small c = let w = and-true _ _ c.if-later-first.true in (ltb-true _ _ w.0, ltb-true _ _ w.1)

pub overflow_add-result : goal.overflow_add-result
overflow_add-result c = omega (arith, minute-small c)

pub returns-then-has-minute : goal.returns-then-has-minute
unfolding matches_at matches_time
returns-then-has-minute c =
    let a = c.args in
    digits-here 60 (lit< tt) (has_bit a.s.hours) (has_bit a.s.minutes) 24 a.t (omega arith)
    c.has.ensures c.next-minute.ensures c.if-has-minute.true

pub overflow_mul-result-then-later-first : goal.overflow_mul-result-then-later-first
overflow_mul-result-then-later-first c = omega (arith, later-small c)

pub overflow_add-result-then-later-first : goal.overflow_add-result-then-later-first
overflow_add-result-then-later-first c = omega (arith, later-small c)

pub returns-then-later-first : goal.returns-then-later-first
unfolding matches_at matches_time
returns-then-later-first c =
    let a = c.args in
    digits-later 60 (lit< tt) (has_bit a.s.hours) (has_bit a.s.minutes) 24 a.t (omega arith)
    c.has.ensures c.next-minute.ensures c.if-has-minute.false
    c.next-later.ensures c.next-first.ensures c.if-later-first.true

pub returns : goal.returns
unfolding matches_at matches_time
returns c =
    let a = c.args in
    digits-none 60 (lit< tt) (has_bit a.s.hours) (has_bit a.s.minutes) 24 a.t (omega arith)
    c.has.ensures c.next-minute.ensures c.if-has-minute.false
    c.next-later.ensures c.next-first.ensures c.if-later-first.false
