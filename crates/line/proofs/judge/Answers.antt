-- `line::judge` meets its contract: 2, 3 and 27, and then what the line has.
-- Assumes nothing.
use mathlib.Core.Path.{◌∙◌}
use borrow.Author.Tests.{lt-ltb, le-ltb}
use Rattle.line.specs.Lines.{read_line}
use borrow.Author.Rules.{rules}
use Rattle.line.proofs.judge.Goals as goal

pub returns-then-s-gt-MAX_LINE : goal.returns-then-s-gt-MAX_LINE
unfolding read_line
returns-then-s-gt-MAX_LINE c = rw (lt-ltb _ _ c.if-s-gt-MAX_LINE.true)

pub byte_fault-requires : goal.byte_fault-requires
byte_fault-requires c = search rules

pub returns-then-stop-s : goal.returns-then-stop-s
unfolding read_line
returns-then-stop-s c = rw (le-ltb _ _ c.if-s-gt-MAX_LINE.false, ← c.requires, lt-ltb _ _ c.if-stop-s.true, c.byte_fault.ensures)

pub returns : goal.returns
unfolding read_line
returns c = c.content.ensures ∙ rw (le-ltb _ _ c.if-s-gt-MAX_LINE.false, ← c.requires, le-ltb _ _ c.if-stop-s.false)
