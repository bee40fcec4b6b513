-- `schedule::local::local_date` meets its contract, by the date that the calendar gives.
-- Assumes nothing.
use mathlib.Core.Path.{◌≡◌, sym, ap, ◌∙◌}
use mathlib.Core.Logic.{inl, inr}
use lib.IntN.{ℤ}
use Rattle.std.specs.Prelude.{Some}
use Rattle.schedule.specs.Local.{biased_offset, local_of, local_date}
use Rattle.schedule.proofs.Offsets.{passed}
use Rattle.schedule.proofs.LocalMinutes.{is_at}
use Rattle.schedule.proofs.local.local_date.Goals as goal
use Rattle.schedule.proofs.local.local_date.Goals.{After-local_minute}

-- what the call has told
told : (c : After-local_minute) → let a = c.args in c.local_minute.result ≡ local_of (biased_offset a.offset) a.minute
told c =
    c.local_minute.ensures ∙ passed (λ (z : ℤ). local_of (biased_offset z) c.args.minute) c.ranges.offset

-- the local minute is on the calendar
pub date_at-requires : goal.date_at-requires
date_at-requires c = (is_at _ _ _ (sym c.in-At.is ∙ told c.before)).1

pub returns-in-Before : goal.returns-in-Before
unfolding local_date
returns-in-Before c = elim c.in-Before.is [ inl w ↦ rw (← (told c.before), w) | inr w ↦ rw (← (told c.before), w) ]

pub returns-in-At : goal.returns-in-At
unfolding local_date
returns-in-At c =
    rw (← (told c.before.before), c.in-At.is) (ap Some c.date_at.ensures)
