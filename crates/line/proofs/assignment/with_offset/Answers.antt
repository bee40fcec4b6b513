-- `line::assignment::with_offset` meets its contract.
-- Assumes nothing.
use native.Mathlib.Omega.{arith}
use Rattle.std.specs.Prelude.{Some, Ok, Result}
use mathlib.Core.Path.{◌≡◌, sym, ap, ◌∙◌}
use lib.IntN.{ℤ}
use Rattle.octets.specs.Runs.{between}
use Rattle.line.specs.declared.Line.TheVariants.{Setting}
use Rattle.line.specs.Assignments.{with_offset, after_offset}
use Rattle.line.proofs.Offsets.{minutes-in, kept}
use Rattle.line.proofs.assignment.with_offset.Goals as goal
use Rattle.line.specs.declared.Line.{Line}
use Rattle.field.specs.declared.Fault.{Fault}

pub returns : goal.returns
unfolding with_offset after_offset between
returns c =
    let read = c.read.ensures in
    let some : c.read.result ≡ Some c.in_ok-minutes.minutes = grind arith in
    let a = c.args in
    rw (← read, some) (ap {B = Result Line Fault} (λ (z : ℤ). Ok (Setting a.name a.value (Some z))) (kept (minutes-in _ (sym read ∙ some))))
