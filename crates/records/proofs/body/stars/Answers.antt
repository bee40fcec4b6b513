-- `records::body::stars` meets its contract.
-- Assumes nothing.
use Rattle.records.specs.Readings.{stars_of}
use Rattle.records.proofs.body.stars.Goals as goal

pub returns : goal.returns
unfolding stars_of
returns c =
    rw (c.has.ensures, c.has-2.ensures, c.has-3.ensures, c.has-4.ensures, c.has-5.ensures)
