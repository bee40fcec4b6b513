-- `crontab_firings::number::read` meets its contract: what is left of the digits, behind the value so far, always gives the same.
-- Assumes nothing.
use Rattle.std.proofs.Common.{◌≡◌, drop}
use Rattle.crontab_firings.specs.Numbers.{value_from, number_of}
use Rattle.crontab_firings.proofs.number.read.Given as goal

abbrev pub invariant-loop-b : goal.invariant-loop-b
invariant-loop-b l = value_from l.value (drop l.b-index l.text) ≡ number_of l.text
