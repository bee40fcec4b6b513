-- `octets::run::trimmed_end` meets its contract: the blanks that it has passed don't change what is left.
-- Assumes nothing.
use mathlib.Core.Path.{◌≡◌}
use lib.ListN.{drop}
use Rattle.octets.specs.Runs.{trimmed, between}
use Rattle.octets.proofs.run.trimmed_end.Given as goal

abbrev pub invariant-loop-last : goal.invariant-loop-last
invariant-loop-last l = trimmed (between l.s l.from l.last) ≡ trimmed (drop l.from l.s)
