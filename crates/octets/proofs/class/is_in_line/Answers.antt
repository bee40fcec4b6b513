-- `octets::class::is_in_line` meets its contract: a byte that can be printed is none that a line may not have.
-- Assumes nothing.
use mathlib.Core.Path.{◌≡◌, sym}
use mathlib.Core.Bool.{true, ◌&&◌, and-eq-true_iff}
use Prim.Native.Nat.{ℕ}
use native.Mathlib.Omega.{arith}
use lib.Dec.{leb, ltb}
use borrow.Author.Tests.{leb-true, ltb-true, le-leb, lt-leb, ne_eqb}
use Rattle.octets.specs.declared.class.Class.TheVariants.{InLine}
use Rattle.octets.specs.Classes.{is_control, of_class}
use Rattle.octets.proofs.class.is_in_line.Goals as goal

printed : (b : ℕ) → (leb 32 b && ltb b 127) ≡ true → of_class InLine b ≡ true
unfolding of_class is_control
printed b e =
    let both = (and-eq-true_iff (leb 32 b) (ltb b 127)).0 e in
    let from = leb-true 32 b both.0 in
    let to = ltb-true b 127 both.1 in
    rw (
      ne_eqb b 10 (λ q. omega arith),
      ne_eqb b 0 (λ q. omega arith),
      le-leb 1 b (omega arith),
      lt-leb b 8 (omega arith),
      le-leb 11 b (omega arith),
      lt-leb b 31 (omega arith),
      ne_eqb b 127 (λ q. omega arith),
    )

pub returns-then-b : goal.returns-then-b
returns-then-b c = sym (printed _ c.if-b.true)

pub returns : goal.returns
unfolding of_class
returns c = rw c.is_control.ensures
