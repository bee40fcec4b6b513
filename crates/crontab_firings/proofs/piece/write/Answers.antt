-- `crontab_firings::piece::write` meets its contract: all firings, or those before the last minute of the first 4,096.
-- Assumes nothing.
use Rattle.std.specs.Prelude.{Result, Ok}
use Rattle.std.proofs.lemmas.Result.{err_from_is_err_and}
use Rattle.refusal.specs.declared.Refusal.{Refusal}
use Rattle.firings.specs.declared.Filled.{Filled}
use mathlib.Core.Path.{◌≡◌, refl, ap, ◌∙◌}
use native.Mathlib.Omega.{arith}
use lib.ListN.{length}
use Rattle.crontab_firings.proofs.Pieces.{filling, all-piece, ends, more-piece, refused-any}
use Rattle.crontab_firings.proofs.piece.write.Goals as goal

merged-ok : (r : Result Filled Refusal) (f g : Filled) → r ≡ Ok f → f ≡ g → r ≡ Ok g
merged-ok r f g is same = is ∙ ap Ok same

pub overflow_sub-result : goal.overflow_sub-result
overflow_sub-result c =
    let text = c.args.text in
    let m = c.merged.ensures in
    let room : length text.now ≡ 172032 = omega arith in
    let f = filling _ _ _ _ _ _ _ text.now m.answer (m.minutes, m.entries) (merged-ok _ _ _ c.in_ok-n.was c.in-More.is) (refl, refl) room in
    omega (arith, (ends _ _ _ _ _ _ _ f _ _ c.minute_of-last.ensures c.before_last-kept.ensures).onward)

pub returns-in-All : goal.returns-in-All
returns-in-All c =
    let m = c.merged.ensures in
    let w = c.write.ensures in
    let room : length c.args.text.now ≡ 172032 = omega arith in
    let f = filling _ _ _ _ _ _ _ _ m.answer (m.minutes, m.entries) (merged-ok _ _ _ c.in_ok-n.was c.in-All.is) (refl, refl) room in
    all-piece _ _ _ _ _ _ _ f _ _ (record { within = w.counts.0; lines = w.lines; rest = w.rest.0 })

pub returns-in-More : goal.returns-in-More
returns-in-More c =
    let m = c.merged.ensures in
    let w = c.write-in-More.ensures in
    let room : length c.args.text.now ≡ 172032 = omega arith in
    let f = filling _ _ _ _ _ _ _ _ m.answer (m.minutes, m.entries) (merged-ok _ _ _ c.in_ok-n.was c.in-More.is) (refl, refl) room in
    more-piece _ _ _ _ _ _ _ f _ _ c.minute_of-last.ensures c.before_last-kept.ensures
    _ _ (record { within = w.counts.0; lines = w.lines; rest = w.rest.0 })

pub returns-in_err-n : goal.returns-in_err-n
returns-in_err-n c =
    let err = err_from_is_err_and c.from_residual.result c.from_residual.ensures.1 in
    rw (err.1, err.2) (refused-any _ _ _ _ _ c.merged.ensures.answer c.in_err-n.was, refl)
