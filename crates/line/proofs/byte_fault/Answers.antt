-- `line::byte_fault` meets its contract: the search for byte 0 goes on where the line's first bad byte stands.
-- Assumes nothing.
use native.Mathlib.Omega.{arith}
use Rattle.line.proofs.Lines.{nul-there, nul-not-there}
use Rattle.line.proofs.byte_fault.Goals as goal

pub returns-then-nul-s : goal.returns-then-nul-s
returns-then-nul-s c =
    let a = c.requires in
    nul-there _ _ _ a.0 c.skip-nul.ensures.0 (omega (arith, c.if-nul-s.true, a.1))

pub returns : goal.returns
returns c =
    let a = c.requires in
    nul-not-there _ _ _ a.0 c.skip-nul.ensures.0 (omega (arith, c.if-nul-s.false))
