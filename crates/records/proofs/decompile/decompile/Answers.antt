-- `records::decompile::decompile` meets its contract, by what the first walk answers.
-- Assumes nothing.
use Rattle.std.proofs.lemmas.Result.{err_from_is_err_and}
use mathlib.Core.Path.{refl, sym, ◌∙◌}
use Rattle.normal.specs.NormalForms.{refused_form}
use Rattle.normal.proofs.Forms.{form-short, form-refused, form-written}
use Rattle.records.proofs.Decompiling.{decompiled-is}
use Rattle.records.proofs.decompile.decompile.Goals as goal

pub returns-then-text-size : goal.returns-then-text-size
unfolding refused_form
returns-then-text-size c =
    let e = sym c.in_ok-size.was ∙ c.write.ensures.is in
    let law = form-short _ _ _ e c.if-text-size.true in
    record { answer = rw (decompiled-is _ _, ← law) refl; text = rw (decompiled-is _ _, ← law) refl }

pub returns : goal.returns
returns c =
    let e = sym c.in_ok-size.was ∙ c.write.ensures.is in
    record { answer = rw (decompiled-is _ _) (form-written _ _ _ e c.if-text-size.false c.write-2.ensures).0; text = rw (decompiled-is _ _) (form-written _ _ _ e c.if-text-size.false c.write-2.ensures).1 }

pub returns-in_err-size : goal.returns-in_err-size
unfolding refused_form
returns-in_err-size c =
    let err = err_from_is_err_and c.from_residual.result c.from_residual.ensures.1 in
    let e = sym c.in_err-size.was ∙ c.write.ensures.is in
    record { answer = rw (err.1, err.2, decompiled-is _ _, ← (form-refused _ _ _ e)) refl; text = rw (decompiled-is _ _, ← (form-refused _ _ _ e)) refl }
