-- `records::body::timed` meets its contract, test by test.
-- Assumes nothing.
use mathlib.Core.Path.{sym, ◌∙◌}
use mathlib.Core.Bool.{true, false}
use Rattle.normal.specs.Meanings.{entry_item}
use Rattle.records.specs.Readings.{number_at}
use Rattle.records.specs.InnerReaders.{found}
use Rattle.records.proofs.Readers.{timed-short, timed-flags, timed-meant}
use Rattle.records.proofs.body.timed.Goals as goal

pub returns-then-body-lt-SCHEDULE_SIZE : goal.returns-then-body-lt-SCHEDULE_SIZE
unfolding found
returns-then-body-lt-SCHEDULE_SIZE c = (timed-short _ c.if-body-lt-SCHEDULE_SIZE.true, tt)

pub returns-then-is_timed : goal.returns-then-is_timed
unfolding found entry_item number_at
returns-then-is_timed c =
    let long = c.if-body-lt-SCHEDULE_SIZE.false in
    let small = rw c.read-flags.ensures.0 at c.if-flags-lt-FLAGS_END.true in
    let proper = rw c.schedule-s.ensures at (sym c.is_timed.ensures ∙ c.if-is_timed.true) in
    (rw c.schedule-s.ensures (timed-meant _ long small true proper), long)

pub returns-else-is_timed : goal.returns-else-is_timed
unfolding found number_at
returns-else-is_timed c =
    let long = c.if-body-lt-SCHEDULE_SIZE.false in
    let small = rw c.read-flags.ensures.0 at c.if-flags-lt-FLAGS_END.true in
    let improper = rw c.schedule-s.ensures at (sym c.is_timed.ensures ∙ c.if-is_timed.false) in
    (timed-meant _ long small false improper, tt)

pub returns-else-flags-lt-FLAGS_END : goal.returns-else-flags-lt-FLAGS_END
unfolding found number_at
returns-else-flags-lt-FLAGS_END c = (timed-flags _ (rw c.read-flags.ensures.0 at c.if-flags-lt-FLAGS_END.false), tt)
