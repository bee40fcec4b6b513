-- `octets::class::is_quote` meets its contract.
-- Assumes nothing.
use mathlib.Core.Path.{refl}
use Rattle.octets.specs.Classes.{is_quote}
use Rattle.octets.proofs.class.is_quote.Goals as goal

pub returns : goal.returns
unfolding is_quote
returns c = refl
