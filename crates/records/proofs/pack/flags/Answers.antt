-- `records::pack::flags` meets its contract: five bits.
-- Assumes nothing.
use native.Mathlib.Omega.{arith}
use Rattle.records.specs.Formats.{flags_of}
use Rattle.records.proofs.pack.flags.Goals as goal

pub returns : goal.returns
unfolding flags_of
returns c = omega (arith, c.bit-minutes.ensures.0, c.bit-hours.ensures.0, c.bit-days.ensures.0, c.bit-months.ensures.0, c.bit-weekdays.ensures.0)
