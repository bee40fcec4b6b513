-- `line::entry::after_time` meets its contract, by the kind.
-- Assumes nothing.
use Rattle.line.proofs.entry.after_time.Goals as goal

pub returns-in-User : goal.returns-in-User
returns-in-User c = rw c.in-User.is c.with_command.ensures

pub returns-in-System : goal.returns-in-System
returns-in-System c = rw c.in-System.is c.with_user.ensures
