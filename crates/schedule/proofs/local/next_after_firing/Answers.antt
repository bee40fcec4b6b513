-- `schedule::local::next_after_firing` meets its contract: what is found on the same day, or what the search gives.
-- Assumes nothing.
use mathlib.Core.Path.{◌≡◌, sym, ◌∙◌}
use Prim.Native.Nat.{◌+◌, ◌≤◌}
use native.Mathlib.Omega.{arith}
use borrow.Author.Tests.{ltb-true, leb-true}
use lib.IntN.{ℤ}
use Rattle.calendar.specs.Dates.{last_minute}
use Rattle.calendar.proofs.Tests.{and-true}
use Rattle.schedule.specs.Local.{biased_offset, local_of, next_after_in}
use Rattle.schedule.proofs.Offsets.{passed}
use Rattle.schedule.proofs.LocalMinutes.{is_at, matches-at}
use Rattle.schedule.proofs.SameDay.{later-least, same-day}
use Rattle.schedule.proofs.local.next_after_firing.Goals as goal
use Rattle.schedule.proofs.local.next_after_firing.Goals.{In-At}

-- where the minute lies locally
placed : (c : In-At)
    → let a = c.args in
    (a.minute + biased_offset a.offset ≡ c.in-At.local + 720) × (c.in-At.local ≤ last_minute)
placed c =
    let told = c.local_minute.ensures ∙ passed (λ (z : ℤ). local_of (biased_offset z) c.args.minute) c.ranges.offset in
    is_at _ _ _ (sym c.in-At.is ∙ told)

pub returns-in_default : goal.returns-in_default
returns-in_default c =
    c.next_firing_in.ensures ∙ passed (λ (z : ℤ). next_after_in c.args.s (biased_offset z) c.args.minute) c.ranges.offset

pub overflow_sub-found : goal.overflow_sub-found
overflow_sub-found c = omega (arith, (later-least _ _ _ (omega arith) c.time_after-later.ensures).low)

pub overflow_add-found : goal.overflow_add-found
overflow_add-found c =
    let l = later-least _ _ _ (omega arith) c.time_after-later.ensures in
    omega (arith, l.low, l.high, c.requires.1)

pub returns-then-later-found : goal.returns-then-later-found
returns-then-later-found c =
    let p = placed c.before.before in
    let w = and-true _ _ c.if-later-found.true in
    same-day c.args.s (biased_offset c.args.offset) c.args.minute _ _ p.0 p.1 (sym (matches-at _ _ _ _ p.0 p.1) ∙ c.requires.2)
    c.time_after-later.ensures (ltb-true _ _ w.0) (leb-true _ _ w.1)

pub returns : goal.returns
returns c =
    c.next_firing_in-2.ensures ∙ passed (λ (z : ℤ). next_after_in c.args.s (biased_offset z) c.args.minute) c.ranges.offset
