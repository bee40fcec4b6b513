-- `firings::merged` meets its contract: each way out is a law of the call.
-- Assumes nothing.
use mathlib.Core.Path.{refl, sym, ◌∙◌}
use Rattle.std.specs.Prelude.{Ok}
use Rattle.std.proofs.lemmas.Result.{err_from_is_err_and}
use Rattle.crontab.specs.Tables.{table_of}
use Rattle.firings.specs.Calls.{refused_merged}
use Rattle.firings.proofs.Exits.{merged-bad, merged-first-off, merged-last-off, merged-listed, good-entries}
use Rattle.firings.proofs.merged.Goals as goal

pub returns-in_err-read : goal.returns-in_err-read
unfolding refused_merged
returns-in_err-read c =
    let err = err_from_is_err_and c.from_residual.result c.from_residual.ensures.1 in
    let law = merged-bad (table_of c.args.rules c.args.bytes.now) c.args.a c.args.b c.args.minutes.now c.args.entries.now (sym c.read.ensures ∙ c.in_err-read.was) in
    record { answer = rw (law, err.1, err.2) refl; minutes = rw law refl; entries = rw law refl }

pub returns-then-a-gt-LAST_MINUTE : goal.returns-then-a-gt-LAST_MINUTE
unfolding refused_merged
returns-then-a-gt-LAST_MINUTE c =
    let is = sym c.read.ensures ∙ c.in_ok-read.was in
    let law = merged-first-off (Ok c.in_ok-read.read) c.args.a c.args.b c.args.minutes.now c.args.entries.now refl c.if-a-gt-LAST_MINUTE.true in
    record { answer = rw (is, law) refl; minutes = rw (is, law) refl; entries = rw (is, law) refl }

pub returns-then-b-gt-LAST_MINUTE : goal.returns-then-b-gt-LAST_MINUTE
unfolding refused_merged
returns-then-b-gt-LAST_MINUTE c =
    let is = sym c.read.ensures ∙ c.in_ok-read.was in
    let law = merged-last-off (Ok c.in_ok-read.read) c.args.a c.args.b c.args.minutes.now c.args.entries.now refl c.if-a-gt-LAST_MINUTE.false c.if-b-gt-LAST_MINUTE.true in
    record { answer = rw (is, law) refl; minutes = rw (is, law) refl; entries = rw (is, law) refl }

pub fill-requires : goal.fill-requires
fill-requires c =
    (rw (sym c.read.ensures ∙ c.in_ok-read.was) at (good-entries c.args.rules c.args.bytes.now), c.if-a-gt-LAST_MINUTE.false, c.if-b-gt-LAST_MINUTE.false)

pub returns : goal.returns
returns c =
    let is = sym c.read.ensures ∙ c.in_ok-read.was in
    let filled = c.fill.ensures in
    let law = merged-listed (Ok c.in_ok-read.read) c.args.a c.args.b c.args.minutes.now c.args.entries.now refl c.if-a-gt-LAST_MINUTE.false c.if-b-gt-LAST_MINUTE.false in
    record {
      answer = rw (is, law) filled.answer;
      minutes = rw (is, law) filled.minutes;
      entries = rw (is, law) filled.entries;
    }
