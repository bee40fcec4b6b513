-- `firings::of_entry` meets its contract: each way out is a law of the call.
-- Assumes nothing.
use mathlib.Core.Path.{refl, sym, ◌∙◌}
use Rattle.std.proofs.lemmas.Result.{err_from_is_err_and}
use Rattle.crontab.specs.Tables.{table_of}
use Rattle.crontab.proofs.Theorems.{entry-sound}
use Rattle.firings.specs.Calls.{refused_entry}
use Rattle.firings.proofs.Exits.{in-found, in-refused, first_off, last_off, at-boot, by-time}
use Rattle.firings.proofs.of_entry.Goals as goal

pub returns-then-a-gt-LAST_MINUTE : goal.returns-then-a-gt-LAST_MINUTE
unfolding refused_entry
returns-then-a-gt-LAST_MINUTE c =
    let a = c.args in
    let law = in-found (table_of a.rules a.bytes.now) a.number a.a a.b a.run.now (sym c.find_entry.ensures ∙ c.in_ok-found.was) (first_off _ a.a a.b a.run.now c.if-a-gt-LAST_MINUTE.true) in
    record { answer = rw law refl; run = rw law refl }

pub returns-then-b-gt-LAST_MINUTE : goal.returns-then-b-gt-LAST_MINUTE
unfolding refused_entry
returns-then-b-gt-LAST_MINUTE c =
    let a = c.args in
    let law = in-found (table_of a.rules a.bytes.now) a.number a.a a.b a.run.now (sym c.find_entry.ensures ∙ c.in_ok-found.was) (last_off _ a.a a.b a.run.now c.if-a-gt-LAST_MINUTE.false c.if-b-gt-LAST_MINUTE.true) in
    record { answer = rw law refl; run = rw law refl }

pub returns-then-is_boot : goal.returns-then-is_boot
unfolding refused_entry
returns-then-is_boot c =
    let a = c.args in
    let law = in-found (table_of a.rules a.bytes.now) a.number a.a a.b a.run.now (sym c.find_entry.ensures ∙ c.in_ok-found.was) (at-boot _ a.a a.b a.run.now c.if-a-gt-LAST_MINUTE.false c.if-b-gt-LAST_MINUTE.false (sym c.is_boot.ensures ∙ c.if-is_boot.true)) in
    record { answer = rw law refl; run = rw law refl }

pub fill-requires : goal.fill-requires
fill-requires c =
    ((entry-sound _ _ _ (sym c.find_entry.ensures ∙ c.in_ok-found.was)).zone, c.if-a-gt-LAST_MINUTE.false, c.if-b-gt-LAST_MINUTE.false)

pub returns : goal.returns
returns c =
    let a = c.args in
    let law = in-found (table_of a.rules a.bytes.now) a.number a.a a.b a.run.now (sym c.find_entry.ensures ∙ c.in_ok-found.was) (by-time _ a.a a.b a.run.now c.if-a-gt-LAST_MINUTE.false c.if-b-gt-LAST_MINUTE.false (sym c.is_boot.ensures ∙ c.if-is_boot.false)) in
    record { answer = rw law c.fill.ensures.answer; run = rw law c.fill.ensures.run }

pub returns-in_err-found : goal.returns-in_err-found
unfolding refused_entry
returns-in_err-found c =
    let a = c.args in
    let err = err_from_is_err_and c.from_residual.result c.from_residual.ensures.1 in
    let law = in-refused (table_of a.rules a.bytes.now) a.number a.a a.b a.run.now (sym c.find_entry.ensures ∙ c.in_err-found.was) in
    record { answer = rw (law, err.1, err.2) refl; run = rw law refl }
