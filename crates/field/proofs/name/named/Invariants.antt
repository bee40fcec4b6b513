-- `field::name::named` meets its contract: what is left of the names gives the same.
-- Assumes nothing.
use mathlib.Core.Path.{◌≡◌}
use Prim.Native.Nat.{◌+◌}
use lib.ListN.{drop}
use Rattle.field.specs.Names.{named}
use Rattle.field.proofs.name.named.Given as goal

abbrev pub invariant-loop-i : goal.invariant-loop-i
invariant-loop-i l = named (l.first + l.i) (drop l.i l.names) l.s ≡ named l.first l.names l.s
