-- `schedule::minute_from` meets its contract: a search by two digits, days of 1,440 minutes.
-- Assumes nothing.
use mathlib.Core.Path.{sym, ◌∙◌}
use Prim.Native.Nat.{◌<◌}
use native.Mathlib.Omega.{arith}
use borrow.Author.Tests.{ltb-true}
use lib.Dec.{lit<}
use Rattle.calendar.specs.Dates.{calendar_days}
use Rattle.calendar.proofs.Tests.{and-true}
use Rattle.schedule.specs.Match.{matches_on, matches_at}
use Rattle.schedule.proofs.Search.{digits-here, digits-later, digits-none}
use Rattle.schedule.proofs.Firing.{by-days}
use Rattle.schedule.proofs.minute_from.Goals as goal
use Rattle.schedule.proofs.minute_from.Goals.{Then-later-first, Then-matches_on-time}

time-small : (c : Then-matches_on-time) → c.time_from-time.result < 1440
time-small c = ltb-true _ _ (and-true c.matches_on.result _ c.if-matches_on-time.true).1

later-small : (c : Then-later-first) → (c.day_from-later.result < calendar_days) × (c.time_from-first.result < 1440)
later-small c = let w = and-true _ _ c.if-later-first.true in (ltb-true _ _ w.0, ltb-true _ _ w.1)

pub overflow_add-result : goal.overflow_add-result
overflow_add-result c = omega (arith, time-small c)

pub returns-then-matches_on-time : goal.returns-then-matches_on-time
returns-then-matches_on-time c =
    let a = c.args in
    digits-here 1440 (lit< tt) (matches_on a.s) (matches_at a.s) calendar_days a.start (omega arith)
    c.matches_on.ensures c.time_from-time.ensures c.if-matches_on-time.true
    ∙ sym (by-days a.s a.start)

pub overflow_mul-result-then-later-first : goal.overflow_mul-result-then-later-first
overflow_mul-result-then-later-first c = omega (arith, later-small c)

pub overflow_add-result-then-later-first : goal.overflow_add-result-then-later-first
overflow_add-result-then-later-first c = omega (arith, later-small c)

pub returns-then-later-first : goal.returns-then-later-first
returns-then-later-first c =
    let a = c.args in
    digits-later 1440 (lit< tt) (matches_on a.s) (matches_at a.s) calendar_days a.start (omega arith)
    c.matches_on.ensures c.time_from-time.ensures c.if-matches_on-time.false
    c.day_from-later.ensures c.time_from-first.ensures c.if-later-first.true
    ∙ sym (by-days a.s a.start)

pub returns : goal.returns
returns c =
    let a = c.args in
    digits-none 1440 (lit< tt) (matches_on a.s) (matches_at a.s) calendar_days a.start (omega arith)
    c.matches_on.ensures c.time_from-time.ensures c.if-matches_on-time.false
    c.day_from-later.ensures c.time_from-first.ensures c.if-later-first.false
    ∙ sym (by-days a.s a.start)
