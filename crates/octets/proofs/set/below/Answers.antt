-- `octets::set::below` meets its contract: the bits of what is left below n are the values there.
-- Assumes nothing.
use mathlib.Core.Path.{◌≡◌, ap, sym, ◌∙◌}
use Prim.Native.Nat.{ℕ, ◌%◌, ◌*◌, ◌^◌, ◌<◌}
use native.Mathlib.Nat.{mod-eq_of_lt, one-mul}
use native.Mathlib.Omega.{arith}
use lib.Pow.{pow_pos, pow-lt}
use lib.Count.{ones}
use Rattle.octets.specs.Sets.{has_bit}
use Rattle.octets.specs.Passing.{count_below}
use Rattle.octets.proofs.Passing.{below-few}
use Rattle.octets.proofs.Ones.{ones_below}
use Rattle.octets.proofs.set.below.Goals as goal

-- nothing is shifted out
one_shifted : (n : ℕ) → n < 64 → 1 * 2 ^ n % 18446744073709551616 ≡ 2 ^ n
one_shifted n h = rw (one-mul (2 ^ n)) (mod-eq_of_lt (pow-lt h))

module _ (set n : ℕ) where
  counted : n < 64 → ones (set % (1 * 2 ^ n % 18446744073709551616)) ≡ count_below (has_bit set) n
  counted h = rw (one_shifted n h) (ones_below set n)

  -- all bits of a word
  all-counted : set < 18446744073709551616 → n ≡ 64 → ones set ≡ count_below (has_bit set) n
  all-counted small e = ap ones (sym (mod-eq_of_lt small)) ∙ rw e (ones_below set 64)

pub nonzero_rem-result : goal.nonzero_rem-result
nonzero_rem-result c = rw (one_shifted c.args.n c.if-n-lt64.true) (pow_pos c.args.n)

pub overflow_cast-result : goal.overflow_cast-result
overflow_cast-result c =
    let a = c.args in
    omega (arith, counted a.set a.n c.if-n-lt64.true, below-few (has_bit a.set) a.n)

pub returns-then-n-lt64 : goal.returns-then-n-lt64
returns-then-n-lt64 c =
    let a = c.args in
    let e = counted a.set a.n c.if-n-lt64.true in
    (e, omega (arith, e, below-few (has_bit a.set) a.n))

pub overflow_cast-result-2 : goal.overflow_cast-result-2
overflow_cast-result-2 c =
    let a = c.args in
    omega (arith, all-counted a.set a.n (omega arith) (omega arith), below-few (has_bit a.set) a.n)

pub returns : goal.returns
returns c =
    let a = c.args in
    let e = all-counted a.set a.n (omega arith) (omega arith) in
    (e, omega (arith, e, below-few (has_bit a.set) a.n))
