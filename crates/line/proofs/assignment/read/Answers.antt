-- `line::assignment::read` meets its contract.
-- Assumes nothing.
use mathlib.Core.Path.{◌≡◌, sym, ◌∙◌}
use Prim.Native.Nat.{◌≤◌}
use lib.ListN.{length}
use Rattle.octets.specs.declared.class.Class.TheVariants.{Blank}
use Rattle.octets.proofs.Runs.{byte-within, skipped-within}
use Rattle.std.specs.Prelude.{Some}
use Rattle.line.proofs.TextViews.{name-view, value-view, name-inside, value-inside}
use native.Mathlib.Omega.{arith}
use Rattle.line.proofs.assignment.read.Goals as goal

pub overflow_add-equals : goal.overflow_add-equals
overflow_add-equals c = omega (arith, byte-within c.args.s.now c.skip-equals.result (omega arith))

pub value_at-requires : goal.value_at-requires
value_at-requires c = let s = c.args.s.now in
    rw c.skip-start.ensures.0 (skipped-within Blank s _ (omega (arith, byte-within s c.skip-equals.result (omega arith))))

-- name and value stand in the line
pub zoned-requires : goal.zoned-requires
zoned-requires c =
    let a = c.args in
    let s = a.s.now in
    let l : c.skip-start.result ≤ length s =
    rw c.skip-start.ensures.0 (skipped-within Blank s _ (omega (arith, byte-within s c.skip-equals.result (omega arith)))) in
    let named : c.name_at.result ≡ Some c.in_ok-name.name = grind arith in
    let valued : c.value_at.result ≡ Some c.in_ok-value.value = grind arith in
    let name = name-inside s a.at (omega arith) (rw (sym c.name_at.ensures ∙ named) at (name-view s a.at)) in
    let value = value-inside s _ l (rw (sym c.value_at.ensures ∙ valued) at (value-view s c.skip-start.result)) in
    (l, name.order, name.within, value.order, value.within)
