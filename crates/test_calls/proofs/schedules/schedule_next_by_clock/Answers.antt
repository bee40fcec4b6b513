-- `test_calls::schedules::schedule_next_by_clock` meets its contract, by what the schedule promises.
-- Assumes nothing.
use mathlib.Core.Path.{ap, sym, subst, ◌∙◌}
use lib.IntN.{ℤ}
use borrow.Author.Tests.{lt-leb, le-leb}
use Rattle.schedule.specs.Local.{OffsetInRange, biased_offset}
use Rattle.schedule.specs.Clocks.{clock_after_in}
use Rattle.schedule.proofs.Offsets.{passed}
use Rattle.schedule.proofs.Theorems.{zone-fits}
use Rattle.test_calls.specs.Numbers.{number_of}
use Rattle.test_calls.specs.Schedules.{offset_of, clock_number}
use Rattle.test_calls.proofs.schedules.schedule_next_by_clock.Goals as goal

pub returns-then-minute-gt-LAST_MINUTE : goal.returns-then-minute-gt-LAST_MINUTE
unfolding clock_number
returns-then-minute-gt-LAST_MINUTE c = rw (lt-leb _ _ c.if-minute-gt-LAST_MINUTE.true) c.number_of.ensures

-- the offset that is passed on may be
pub next_by_clock-requires : goal.next_by_clock-requires
next_by_clock-requires c =
    let o = c.offset_of in
    subst OffsetInRange (sym (passed (λ (z : ℤ). z) (zone-fits o.result o.ensures.zone))) o.ensures.zone

pub returns : goal.returns
unfolding clock_number
returns c =
    let o = c.offset_of in
    let s = c.schedule_of-s in
    let f = passed (λ (z : ℤ). number_of (clock_after_in s.result (biased_offset z) c.args.minute)) (zone-fits o.result o.ensures.zone) in
    rw (le-leb _ _ c.if-minute-gt-LAST_MINUTE.false, ← s.ensures, ← (o.ensures.value ∙ passed offset_of c.ranges.offset)) (c.number_of-2.ensures ∙ ap number_of c.next_by_clock.ensures ∙ f)
