-- `line::user::behind` meets its contract: the runs that are left lead to the same place.
-- Assumes nothing.
use mathlib.Core.Path.{◌≡◌}
use Prim.Native.Nat.{◌-◌}
use Rattle.line.specs.Owners.{behind}
use Rattle.line.proofs.user.behind.Given as goal

abbrev pub invariant-loop : goal.invariant-loop
invariant-loop l = behind (l.runs - l.counter) l.l l.at ≡ behind l.runs l.l l.at-2
