-- `calendar::direct::days_before_year` meets its contract, by the closed form of a year's first day (`start-at`).
-- Assumes nothing.
use mathlib.Core.Path.{◌≡◌}
use Prim.Native.Nat.{◌+◌, ◌-◌}
use native.Mathlib.Omega.{arith}
use Rattle.calendar.proofs.YearStarts.{start_at, start-at}
use Rattle.calendar.proofs.direct.days_before_year.Goals as goal

pub returns : goal.returns
unfolding start_at
returns c =
    let e : c.args.year - 1 ≡ c.args.year - 1970 + 1969 = omega arith in
    rw e (start-at (c.args.year - 1970))
