-- `line::entry::time` meets its contract, by the first byte.
-- Assumes nothing.
use native.Mathlib.Omega.{arith}
use borrow.Author.Tests.{eq-eqb, ne_eqb}
use Rattle.octets.proofs.Runs.{byte-within}
use Rattle.line.specs.Entries.{time_at}
use Rattle.line.proofs.entry.time.Goals as goal

pub read-requires : goal.read-requires
read-requires c =
    let a = c.args in
    byte-within a.s.now a.at (rw (← c.byte_at.ensures, c.if-byte_at-eq64.true) (omega arith))

pub returns-then-byte_at-eq64 : goal.returns-then-byte_at-eq64
unfolding time_at
returns-then-byte_at-eq64 c = rw (← c.byte_at.ensures, eq-eqb _ _ c.if-byte_at-eq64.true) c.read.ensures

pub returns : goal.returns
unfolding time_at
returns c = rw (← c.byte_at.ensures, ne_eqb _ _ c.if-byte_at-eq64.false) c.read-2.ensures
