-- `octets::set::with` meets its contract: nothing is shifted out.
-- Assumes nothing.
use Prim.Native.Nat.{◌^◌}
use native.Mathlib.Nat.{mod-eq_of_lt, one-mul}
use borrow.Author.Tests.{lt-ltb, le-ltb}
use lib.Pow.{pow-lt}
use Rattle.octets.specs.Sets.{with_bit, put}
use Rattle.octets.proofs.set.with.Goals as goal

pub returns-then-n-lt64 : goal.returns-then-n-lt64
unfolding put with_bit
returns-then-n-lt64 c =
    rw (lt-ltb c.args.n 64 c.if-n-lt64.true, one-mul (2 ^ c.args.n), mod-eq_of_lt (pow-lt c.if-n-lt64.true))

pub returns : goal.returns
unfolding put
returns c = rw (le-ltb c.args.n 64 c.if-n-lt64.false)
