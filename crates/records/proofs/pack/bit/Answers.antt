-- `records::pack::bit` meets its contract.
-- Assumes nothing.
use mathlib.Core.Path.{refl}
use Rattle.records.proofs.Bodies.{bit-small}
use Rattle.records.proofs.pack.bit.Goals as goal

pub returns : goal.returns
returns c = (refl, bit-small c.args.star)
