-- `field::format::searched_step` meets its contract: the smallest step lies from n on.
-- Assumes nothing.
use mathlib.Core.Path.{◌≡◌}
use Prim.Native.Nat.{suc}
use Rattle.octets.specs.Search.{from}
use Rattle.field.specs.Written.{gives, step_of}
use Rattle.field.proofs.format.searched_step.Given as goal

abbrev pub invariant-loop-n : goal.invariant-loop-n
invariant-loop-n l = (from (gives l.limits l.set) (suc l.limits.last) l.n ≡ step_of l.limits l.set)
