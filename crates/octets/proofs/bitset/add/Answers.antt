-- `octets::bitset::add` meets its contract.
-- Assumes nothing.
use mathlib.Core.Path.{sym}
use Prim.Native.Nat.{◌%◌}
use native.Mathlib.Omega.{arith}
use borrow.Author.Tests.{lt-ltb}
use Rattle.octets.specs.Sets.{put}
use Rattle.octets.specs.BitSets.{with_member}
use Rattle.octets.proofs.BitSets.{with-past}
use Rattle.octets.proofs.bitset.add.Goals as goal

pub returns-then-at-words : goal.returns-then-at-words
unfolding with_member put
returns-then-at-words c = let n = c.args.n in
    rw (c.with.ensures, lt-ltb (n % 64) 64 (omega arith))

pub returns-else-at-words : goal.returns-else-at-words
returns-else-at-words c = sym (with-past _ _ c.if-at-words.false)
