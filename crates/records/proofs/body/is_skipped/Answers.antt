-- `records::body::is_skipped` meets its contract.
-- Assumes nothing.
use mathlib.Core.Path.{refl}
use Rattle.records.specs.Readings.{is_skipped}
use Rattle.records.proofs.body.is_skipped.Goals as goal

pub returns : goal.returns
unfolding is_skipped
returns c = refl
