use Rattle.std.proofs.Common.{◌≡◌, refl, sym, ◌∙◌, true, false, ℕ, Result, Ok, Err, arith}
use Rattle.std.specs.Prelude.{is_err}
use Rattle.records.specs.Readings.{decode, decoded_fault}
use Rattle.records.specs.Calls.{record_fault}
use Rattle.records.proofs.Decompiling.{decoded-end, fault-next, fault-here}
use Rattle.records.proofs.decompile.record_fault.Goals as goal

-- what the test for an error says
tested-err : {A E : Type 0} (r : Result A E) → is_err r ≡ true → (e : E) × (r ≡ Err e)
tested-err (Ok x) e = absurd (let z : ◌≡◌ {A = ℕ} 0 1 = cc in omega arith)
tested-err (Err n) e = (n, refl)

tested-ok : {A E : Type 0} (r : Result A E) → is_err r ≡ false → (x : A) × (r ≡ Ok x)
tested-ok (Ok x) e = (x, refl)
tested-ok (Err n) e = absurd (let z : ◌≡◌ {A = ℕ} 0 1 = cc in omega arith)

pub loop-at-init : goal.loop-at-init
unfolding record_fault decode
loop-at-init c = (refl, omega arith, omega arith)

pub returns-then-is_err : goal.returns-then-is_err
returns-then-is_err c =
    let at = c.loop-at in
    let bad = tested-err c.advance-step.result.content (sym c.is_err.ensures.value ∙ c.if-is_err.true) in
    fault-here c.advance-step.ensures at.number bad.1 ∙ at.invariant.0

pub loop-at-preserved : goal.loop-at-preserved
loop-at-preserved c =
    let at = c.loop-at in
    let step = c.advance-step.ensures in
    let good = tested-ok c.advance-step.result.content (sym c.is_err.ensures.value ∙ c.if-is_err.false) in
    (fault-next step at.number good.1 ∙ at.invariant.0, omega (arith, step.onward, at.invariant.1), step.within)

pub returns : goal.returns
unfolding decoded_fault
returns c = let at = c.loop-at in rw (decoded-end _ at.number at.at c.loop-at-test.false) at at.invariant.0
