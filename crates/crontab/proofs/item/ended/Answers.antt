-- `crontab::item::ended` meets its contract, by what the line is.
-- Assumes nothing.
use Rattle.std.specs.Prelude.{Ok}
use mathlib.Core.Path.{sym, ap, ◌∙◌}
use native.Mathlib.Omega.{arith}
use Rattle.line.proofs.Theorems.{kept, forced, setting-proper}
use Rattle.crontab.proofs.Items.{step-nothing, step-setting, step-entry, step-full, step-refused, line-ends, line-order, line-from, line-stops, entry-placed}
use Rattle.crontab.proofs.item.ended.Goals as goal

pub slice_bounds-judge-count : goal.slice_bounds-judge-count
slice_bounds-judge-count c = line-order c.args.rules _ _ _ _ c.requires.0

pub slice_bounds-judge-start : goal.slice_bounds-judge-start
slice_bounds-judge-start c = line-order c.args.rules _ _ _ _ c.requires.0

pub overflow_sub-stop : goal.overflow_sub-stop
overflow_sub-stop c = line-from c.args.rules _ _ _ _ c.requires.0

pub judge-requires : goal.judge-requires
judge-requires c =
    line-stops c.args.rules _ _ _ _ c.requires.0

pub bad_line-requires : goal.bad_line-requires
bad_line-requires c = line-ends c.args.rules _ _ _ _ c.requires.0

pub returns-in-Err : goal.returns-in-Err
returns-in-Err c =
    let a = c.requires in
    rw c.bad_line.ensures (step-refused _ _ _ _ _ a.0 a.1 (sym c.judge.ensures ∙ c.in-Err.is))

pub behind-requires : goal.behind-requires
behind-requires c =
    line-ends c.args.rules _ _ _ _ c.requires.0

pub moved-requires-in-Setting : goal.moved-requires-in-Setting
moved-requires-in-Setting c =
    let p = setting-proper _ _ (sym c.judge.ensures ∙ c.in-Ok.is ∙ ap Ok c.in-Setting.is) in
    omega (arith, p.0, p.2.order, p.2.within, c.requires.0.reached.place)

pub moved-requires : goal.moved-requires
moved-requires c =
    let p = setting-proper _ _ (sym c.judge.ensures ∙ c.in-Ok.is ∙ ap Ok c.in-Setting.is) in
    omega (arith, p.0, p.1.order, p.1.within, c.requires.0.reached.place)

pub in_force-requires : goal.in_force-requires
in_force-requires c = (setting-proper _ _ (sym c.judge.ensures ∙ c.in-Ok.is ∙ ap Ok c.in-Setting.is)).3

pub behind-requires-in-Setting : goal.behind-requires-in-Setting
behind-requires-in-Setting c =
    line-ends c.args.rules _ _ _ _ c.requires.0

pub returns-then-c-eq-MAX_ENTRIES : goal.returns-then-c-eq-MAX_ENTRIES
returns-then-c-eq-MAX_ENTRIES c =
    let a = c.requires in
    rw c.bad_line-then-c-eq-MAX_ENTRIES.ensures
    (step-full _ _ _ _ _ a.0 a.1 (sym c.judge.ensures ∙ c.in-Ok.is ∙ ap Ok c.in-Entry.is) (omega arith))

pub overflow_sub-end : goal.overflow_sub-end
overflow_sub-end c =
    line-order c.args.rules _ _ _ _ c.requires.0

pub placed-requires : goal.placed-requires
placed-requires c =
    let a = c.requires in
    entry-placed _ _ _ _ _ a.0 (sym c.judge.ensures ∙ c.in-Ok.is ∙ ap Ok c.in-Entry.is)

pub overflow_add-c : goal.overflow_add-c
overflow_add-c c = record { fits = omega (arith, c.requires.0.reached.few) }

pub behind-requires-in-Entry : goal.behind-requires-in-Entry
behind-requires-in-Entry c =
    line-ends c.args.rules _ _ _ _ c.requires.0

pub returns-in-Ignored : goal.returns-in-Ignored
returns-in-Ignored c =
    let a = c.requires in
    rw c.behind.ensures
    (step-nothing _ _ _ _ _ a.0 a.1 (kept a.0.reached.zone) (sym c.judge.ensures ∙ c.in-Ok.is ∙ ap Ok c.in-Ignored.is))

pub returns-in-Setting : goal.returns-in-Setting
returns-in-Setting c =
    let a = c.requires in
    let is = sym c.judge.ensures ∙ c.in-Ok.is ∙ ap Ok c.in-Setting.is in
    rw (c.behind-in-Setting.ensures, c.moved.ensures, c.moved-in-Setting.ensures)
    (step-setting _ _ _ _ _ a.0 a.1 is (forced _ (setting-proper _ _ is).3 a.0.reached.zone (kept a.0.reached.zone) c.in_force.ensures))

pub returns-else-c-eq-MAX_ENTRIES : goal.returns-else-c-eq-MAX_ENTRIES
returns-else-c-eq-MAX_ENTRIES c =
    let a = c.requires in
    rw (c.behind-in-Entry.ensures, c.placed.ensures)
    (step-entry _ _ _ _ _ a.0 a.1 (kept a.0.reached.zone) (sym c.judge.ensures ∙ c.in-Ok.is ∙ ap Ok c.in-Entry.is) (omega (arith, c.if-c-eq-MAX_ENTRIES.false)))
