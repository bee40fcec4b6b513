-- `eremothyn::settings::shown_in` meets its contract, case by case.
-- Assumes nothing.
use Rattle.eremothyn.proofs.settings.shown_in.Goals as goal

pub returns-in-NameLength : goal.returns-in-NameLength
returns-in-NameLength c = rw c.in-NameLength.is

pub returns-in-ValueLength : goal.returns-in-ValueLength
returns-in-ValueLength c = rw c.in-ValueLength.is
