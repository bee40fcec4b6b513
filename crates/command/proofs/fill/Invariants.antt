-- `command::fill` meets its contract. The loop's invariant: k bytes are written, and the others lie ahead.
-- Assumes nothing.
use Rattle.std.proofs.Common.{◌≡◌, ◌++◌, length, take, drop}
use Rattle.command.specs.Pieces.{bytes_of}
use Rattle.command.specs.Inner.{left}
use Rattle.command.proofs.fill.Given as goal

abbrev pub invariant-loop-k : goal.invariant-loop-k
invariant-loop-k l = record {
  can : (goal.iterator-loop-k).can_next l.pieces;
  ahead : bytes_of (left l.pieces) ≡ drop l.k (bytes_of (left l.fn.pieces));
  is : l.out ≡ take l.k (bytes_of (left l.fn.pieces)) ++ drop l.k l.initial.out;
  size : length l.out ≡ length l.initial.out;
}
