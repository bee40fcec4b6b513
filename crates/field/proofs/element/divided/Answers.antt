-- `field::element::divided` meets its contract: the three forms one after the other.
-- Assumes nothing.
use mathlib.Core.Path.{sym, ◌∙◌}
use Prim.Native.Nat.{ℕ, ◌+◌, ◌≤◌, ◌<◌}
use native.Mathlib.Omega.{arith}
use lib.Seq.{length-take-le}
use Rattle.octets.proofs.Runs.{before-end}
use Rattle.field.proofs.Elements.{element-number, element-range, element-step}
use Rattle.field.proofs.element.divided.Goals as goal

-- with fewer facts in reach than a path has
next-within : {d n : ℕ} → d < n → d + 1 ≤ n
next-within h = omega arith

pub slice_bounds-end-end : goal.slice_bounds-end-end
slice_bounds-end-end c = sym (length-take-le _ _ (omega arith))

pub returns-then-dash-s : goal.returns-then-dash-s
returns-then-dash-s c =
    c.range.ensures
    ∙ rw c.end-low.ensures
    (sym (element-number _ _ _ c.skip-dash.ensures.0 c.if-dash-s.true))

pub slice_bounds-upper-end : goal.slice_bounds-upper-end
slice_bounds-upper-end c = sym (length-take-le _ _ (omega arith))

pub returns-then-slash-s : goal.returns-then-slash-s
returns-then-slash-s c =
    c.range-then-slash-s.ensures
    ∙ rw (c.end-low.ensures, c.upper-high.ensures)
    (sym (element-range _ _ _ c.skip-dash.ensures.0 (omega arith) _ c.skip-slash.ensures.0 c.if-slash-s.true))

pub returns : goal.returns
returns c =
    let dash = c.skip-dash.ensures in
    let inside = before-end (omega arith) dash.2 c.if-dash-s.false in
    c.range-2.ensures
    ∙ rw (c.end-low.ensures, c.upper-high.ensures, c.read.ensures)
    (sym (element-step _ _ _ dash.0 inside _ c.skip-slash.ensures.0 (before-end (next-within inside) c.skip-slash.ensures.2 c.if-slash-s.false)))
