-- `line::user::account_after` meets its contract.
-- Assumes nothing.
use native.Mathlib.Omega.{arith}
use borrow.Author.Tests.{eq-eqb, ne_eqb}
use Rattle.octets.proofs.Runs.{byte-within}
use Rattle.line.specs.Users.{account_after}
use Rattle.line.proofs.user.account_after.Goals as goal

pub overflow_add-at : goal.overflow_add-at
overflow_add-at c = let a = c.args in
    omega (arith, byte-within a.s.now a.at (rw (← c.byte_at.ensures, c.if-byte_at-mark.true) c.requires))

pub returns-then-byte_at-mark : goal.returns-then-byte_at-mark
unfolding account_after
returns-then-byte_at-mark c = rw (← c.byte_at.ensures, eq-eqb _ _ c.if-byte_at-mark.true) c.account_at.ensures

pub returns : goal.returns
unfolding account_after
returns c = rw (← c.byte_at.ensures, ne_eqb _ _ c.if-byte_at-mark.false)
