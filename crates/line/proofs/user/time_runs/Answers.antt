-- `line::user::time_runs` meets its contract, by the first byte.
-- Assumes nothing.
use borrow.Author.Tests.{eq-eqb, ne_eqb}
use Rattle.line.specs.Owners.{time_runs}
use Rattle.line.proofs.user.time_runs.Goals as goal

pub returns-then-byte_at-eq64 : goal.returns-then-byte_at-eq64
unfolding time_runs
returns-then-byte_at-eq64 c = rw (← c.byte_at.ensures, eq-eqb _ _ c.if-byte_at-eq64.true)

pub returns : goal.returns
unfolding time_runs
returns c = rw (← c.byte_at.ensures, ne_eqb _ _ c.if-byte_at-eq64.false)
