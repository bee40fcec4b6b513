-- `crontab_firings::file::read` meets its contract: the bytes so far are the file's first, and each read that gives bytes leaves less room.
-- Assumes nothing.
use Rattle.std.proofs.Common.{◌-◌, ◌≤◌, length, take}
use Rattle.std.specs.Io.KnownBytes.{Consumes}
use Rattle.crontab_firings.proofs.file.read.Given as goal

abbrev pub invariant-loop-at : goal.invariant-loop-at
invariant-loop-at g l = (l.at ≤ length l.text) × Consumes (g.R.Read.remaining l.initial.file) (g.R.Read.remaining l.file) (take l.at l.text)

abbrev pub decreases-loop-at : goal.decreases-loop-at
decreases-loop-at g l = length l.initial.text - l.at
