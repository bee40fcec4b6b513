use mathlib.Core.Path.{refl, ap, ◌∙◌}
use lib.ListN.{length-set}
use native.Mathlib.Omega.{arith}
use borrow.Author.Tests.{lt-ltb}
use Rattle.std.specs.Prelude.{Err}
use Rattle.std.proofs.lemmas.Result.{err_from_is_err_and, MatchResult-at_ok, MatchResult-at_err}
use Rattle.crontab.specs.Items.{items_of}
use Rattle.crontab.specs.Tables.{no_entries, refused_table, empty_table, with_items, table_of}
use Rattle.crontab.proofs.Items.{items-start, start-reached}
use Rattle.crontab.proofs.Walks.{less-entry, less-setting, entry-room, table-nothing, table-refused, table-setting, table_more}
use Rattle.crontab.proofs.table.read.Goals as goal

pub returns-then-s-gt-MAX_TABLE : goal.returns-then-s-gt-MAX_TABLE
unfolding items_of table_of with_items refused_table
returns-then-s-gt-MAX_TABLE c = rw (lt-ltb _ _ c.if-s-gt-MAX_TABLE.true)

pub loop-step-init : goal.loop-step-init
unfolding table_of empty_table no_entries
loop-step-init c = (rw (items-start _ _ c.if-s-gt-MAX_TABLE.false), start-reached _ c.if-s-gt-MAX_TABLE.false, refl)

pub next_item-requires : goal.next_item-requires
next_item-requires c = c.loop-step.invariant.1

pub returns-in-Nothing : goal.returns-in-Nothing
returns-in-Nothing c = table-nothing (MatchResult-at_ok _ _ _ c.in_ok-step.was c.next_item.ensures) _ c.in-Nothing.is ∙ c.loop-step.invariant.0

pub returns-in_err-step : goal.returns-in_err-step
unfolding refused_table
returns-in_err-step c =
    let err = err_from_is_err_and c.from_residual.result c.from_residual.ensures.1 in
    err.1 ∙ ap Err err.2 ∙ table-refused _ _ _ (MatchResult-at_err _ _ _ c.in_err-step.was c.next_item.ensures).gives _ ∙ c.loop-step.invariant.0

pub offset_bounds-entries-count : goal.offset_bounds-entries-count
offset_bounds-entries-count c = omega (arith, entry-room (MatchResult-at_ok _ _ _ c.in_ok-step.was c.next_item.ensures) c.in-Entry.is)

pub bounds-entries-count : goal.bounds-entries-count
bounds-entries-count c =
    omega (arith, entry-room (MatchResult-at_ok _ _ _ c.in_ok-step.was c.next_item.ensures) c.in-Entry.is, c.loop-step.invariant.2)

pub loop-step-smaller-in-Entry : goal.loop-step-smaller-in-Entry
loop-step-smaller-in-Entry c = less-entry (MatchResult-at_ok _ _ _ c.in_ok-step.was c.next_item.ensures) c.in-Entry.is

pub loop-step-preserved-in-Entry : goal.loop-step-preserved-in-Entry
loop-step-preserved-in-Entry c =
    let inv = c.loop-step.invariant in
    let step = MatchResult-at_ok _ _ _ c.in_ok-step.was c.next_item.ensures in
    (table_more step _ c.in-Entry.is ∙ inv.0, step.reached, simp length-set inv.2)

pub loop-step-smaller : goal.loop-step-smaller
loop-step-smaller c = less-setting (MatchResult-at_ok _ _ _ c.in_ok-step.was c.next_item.ensures) c.in-Setting.is

pub loop-step-preserved : goal.loop-step-preserved
loop-step-preserved c =
    let inv = c.loop-step.invariant in
    let step = MatchResult-at_ok _ _ _ c.in_ok-step.was c.next_item.ensures in
    (table-setting step _ c.in-Setting.is ∙ inv.0, step.reached, inv.2)
