-- `records::body::schedule` meets its contract.
-- Assumes nothing.
use Rattle.records.specs.Readings.{number_at, schedule_at}
use Rattle.records.proofs.body.schedule.Goals as goal

pub returns : goal.returns
unfolding schedule_at number_at
returns c =
    rw (
      c.stars.ensures,
      c.read-6.ensures.0,
      c.read-5.ensures.0,
      c.read-4.ensures.0,
      c.read-3.ensures.0,
      c.read-2.ensures.0,
      c.read.ensures.0,
    )
