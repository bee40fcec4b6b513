-- `command::read` meets its contract: each way is a law of what lies ahead.
-- Assumes nothing.
use mathlib.Core.Path.{◌≡◌, refl, sym, ◌∙◌}
use mathlib.Core.Bool.{Bool, true, false}
use mathlib.Core.List.{List, ◌∷◌}
use Prim.Native.Nat.{ℕ, ◌<◌}
use native.Mathlib.Omega.{arith}
use lib.ListN.{drop}
use Rattle.command.specs.declared.Piece.TheVariants.{Byte}
use Rattle.command.specs.declared.Step.{Step}
use Rattle.command.specs.Inner.{ahead, text_step, StepIs}
use Rattle.command.proofs.Ahead.{ahead-second, ahead-percent, ahead-plain, ahead-escaped, ahead-kept}
use Rattle.command.proofs.read.Goals as goal

-- a step over a byte of text
over : (c : List ℕ) (i b next : ℕ) (before after : Bool) (r : Step) → r ≡ text_step b next after → i < next
    → ahead before (drop i c) ≡ Byte b ∷ ahead after (drop next c) → StepIs c i before r
over c i b next before after r e h g = rw e (record { onward = h; unpaired = λ k. cc; gives = g })

pub returns-then-second : goal.returns-then-second
returns-then-second c =
    let a = c.args in
    over a.c.now a.i _ _ a.second false _ c.text.ensures (omega arith)
    (rw c.if-second.true (ahead-second a.c.now a.i c.requires))

pub returns-then-b-eq37 : goal.returns-then-b-eq37
returns-then-b-eq37 c =
    let a = c.args in
    record {
      onward = omega arith;
      unpaired = λ e. refl;
      gives = rw c.if-second.false (ahead-percent a.c.now a.i c.requires c.if-b-eq37.true);
    }

pub returns-then-b-ne92 : goal.returns-then-b-ne92
returns-then-b-ne92 c =
    let a = c.args in
    over a.c.now a.i _ _ a.second false _ c.text-then-b-ne92.ensures (omega arith)
    (rw c.if-second.false
    (ahead-plain a.c.now a.i c.requires c.if-b-eq37.false c.if-b-ne92.true))

pub returns-then-is_percent : goal.returns-then-is_percent
returns-then-is_percent c =
    let a = c.args in
    let q = sym c.is_percent.ensures ∙ c.if-is_percent.true in
    over a.c.now a.i _ _ a.second false _ c.text-then-is_percent.ensures (omega arith)
    (rw c.if-second.false
    (ahead-escaped a.c.now a.i c.requires c.if-b-ne92.false q))

pub returns : goal.returns
returns c =
    let a = c.args in
    let q = sym c.is_percent.ensures ∙ c.if-is_percent.false in
    over a.c.now a.i _ _ a.second true _ c.text-2.ensures (omega arith)
    (rw c.if-second.false
    (ahead-kept a.c.now a.i c.requires c.if-b-ne92.false q))
