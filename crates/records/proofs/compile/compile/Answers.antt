-- `records::compile::compile` meets its contract, by what is measured.
-- Assumes nothing.
use Rattle.std.proofs.lemmas.Result.{err_from_is_err_and}
use mathlib.Core.Path.{refl, sym, ap, ◌∙◌}
use lib.ListN.{length}
use Rattle.octets.proofs.Written.{clipped-length}
use Rattle.normal.specs.NormalForms.{refused_form}
use Rattle.normal.proofs.Forms.{form-short, form-refused, form-written, written-fits, text-passed}
use Rattle.records.proofs.Compiling.{compiled-is}
use Rattle.records.proofs.compile.compile.Goals as goal

pub returns-then-records-size : goal.returns-then-records-size
unfolding refused_form
returns-then-records-size c =
    let e = sym c.in_ok-size.was ∙ c.measure.ensures in
    let law = form-short _ _ _ e c.if-records-size.true in
    record { answer = rw (compiled-is _ _ _, ← law) refl; records = rw (compiled-is _ _ _, ← law) refl }

pub write-requires : goal.write-requires
write-requires c =
    let e = sym c.in_ok-size.was ∙ c.measure.ensures in
    text-passed _ _ (written-fits _ _ e).good

pub returns : goal.returns
returns c =
    let e = sym c.in_ok-size.was ∙ c.measure.ensures in
    let now = c.write.ensures in
    let w = form-written _ _ _ e c.if-records-size.false (record { is = e; size = ap length now ∙ clipped-length _ _ _; text = λ z. now }) in
    record { answer = rw (compiled-is _ _ _) w.0; records = rw (compiled-is _ _ _) w.1 }

pub returns-in_err-size : goal.returns-in_err-size
unfolding refused_form
returns-in_err-size c =
    let err = err_from_is_err_and c.from_residual.result c.from_residual.ensures.1 in
    let e = sym c.in_err-size.was ∙ c.measure.ensures in
    record { answer = rw (err.1, err.2, compiled-is _ _ _, ← (form-refused _ _ _ e)) refl; records = rw (compiled-is _ _ _, ← (form-refused _ _ _ e)) refl }
