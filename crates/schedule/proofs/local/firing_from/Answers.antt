-- `schedule::local::firing_from` meets its contract: as far as the local minute is ahead of the first one, the UTC minute is.
-- Assumes nothing.
use Prim.Native.Nat.{◌+◌}
use native.Mathlib.Omega.{arith}
use Rattle.calendar.specs.Dates.{last_minute}
use Rattle.schedule.specs.Match.{matches}
use Rattle.schedule.proofs.Search.{from-least}
use Rattle.schedule.proofs.LocalFirings.{firing-at, firing-none}
use Rattle.schedule.proofs.local.firing_from.Goals as goal

pub overflow_sub-minute : goal.overflow_sub-minute
overflow_sub-minute c =
    let a = c.args in
    let l = from-least (matches a.s) (last_minute + 1) a.local (omega (arith, c.requires)) in
    omega (arith, l.low, c.minute_from-found.ensures)

pub overflow_add-minute : goal.overflow_add-minute
overflow_add-minute c =
    let a = c.args in
    let l = from-least (matches a.s) (last_minute + 1) a.local (omega (arith, c.requires)) in
    record { fits = omega (arith, l.high, c.minute_from-found.ensures, c.requires) }

pub returns-then-found-minute : goal.returns-then-found-minute
returns-then-found-minute c = λ o e. firing-at _ o e c.requires.0 c.requires.1 c.minute_from-found.ensures c.if-found-minute.true

pub returns : goal.returns
returns c = λ o e. firing-none _ o e c.requires.0 c.requires.1 c.minute_from-found.ensures c.if-found-minute.false
