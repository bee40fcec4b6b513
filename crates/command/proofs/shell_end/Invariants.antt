-- `command::shell_end` meets its contract. The loop's invariant: the bytes counted and the line that lies ahead are the shell
-- line, and what lies ahead has the same input.
-- Assumes nothing.
use Rattle.std.proofs.Common.{◌≡◌, ◌+◌, length}
use Rattle.command.specs.Parts.{up_to_percent, rest_of, shell_line, input_of}
use Rattle.command.specs.Inner.{left}
use Rattle.command.proofs.shell_end.Given as goal

abbrev pub invariant-loop-piece : goal.invariant-loop-piece
invariant-loop-piece l = record {
  can : (goal.iterator-loop-piece).can_next l.pieces;
  finite : (goal.iterator-loop-piece).is_finite l.pieces;
  counted : l.length + length (up_to_percent (left l.pieces)) ≡ length (shell_line l.c);
  input : rest_of (left l.pieces) ≡ input_of l.c;
}
