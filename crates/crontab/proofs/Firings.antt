-- Laws of an entry at a minute of the calendar, by its local date.
-- Assumes nothing.
use mathlib.Core.Path.{◌≡◌, refl, sym, ap, ◌∙◌}
use mathlib.Core.Bool.{false}
use Prim.Native.Nat.{ℕ, ◌≤◌, ◌<◌}
use native.Mathlib.Nat.{lt_of_not-le}
use native.Mathlib.Decide.{dec_le}
use native.Mathlib.Omega.{arith}
use lib.IntN.{ℤ}
use borrow.Author.Tests.{le-leb, lt-leb}
use Rattle.std.specs.Prelude.{Result, Ok, Err, Option}
use Rattle.refusal.specs.declared.Refusal.{Refusal}
use Rattle.octets.specs.Search.{passes}
use Rattle.octets.proofs.Search.{none_passes}
use Rattle.calendar.specs.Dates.{last_minute}
use Rattle.schedule.specs.declared.Schedule.{Schedule}
use Rattle.schedule.specs.Next.{by_then}
use Rattle.schedule.specs.Local.{biased_offset, matches_in, next_after_in, local_date, matches_local}
use Rattle.schedule.proofs.Theorems.{local-date, next-by}
use Rattle.line.specs.declared.time.When.{When}
use Rattle.line.specs.declared.time.When.TheVariants.{Reboot, Timed}
use Rattle.crontab.specs.declared.entry.Entry.{Entry}
use Rattle.crontab.specs.Refusals.{at_boot_only}
use Rattle.crontab.specs.Firings.{by_when, fires_on, fires_at, due_of, next_of}
use Rattle.calendar.specs.declared.Date.{Date}

pub fires-date : (e : Entry) (m : ℕ) → fires_at e m ≡ fires_on e (local_date (biased_offset e.offset) m)
unfolding fires_at fires_on
fires-date e m = go e.when
  where
    o : ℕ
    o = biased_offset e.offset

    go : (when : When) → by_when when false (λ s. matches_in s o m) ≡ by_when when false (λ s. matches_local s (local_date o m))
    go Reboot = refl
    go (Timed times) = sym (local-date times o m)

pub fires-here : (e : Entry) (m : ℕ) {d : Option Date} → d ≡ local_date (biased_offset e.offset) m → fires_on e d ≡ fires_at e m
fires-here e m p = rw p (sym (fires-date e m))

pub due-on : (e : Entry) (m : ℕ) {d : Option Date} → m ≤ last_minute → d ≡ local_date (biased_offset e.offset) m → due_of e m ≡ Ok (fires_on e d)
unfolding due_of
due-on e m h p = rw (le-leb m last_minute h, p, fires-date e m)

-- under an offset that is another's, read back
pub next-same : {y z : ℤ} → y ≡ z → (s : Schedule) (m : ℕ) {r : Result ℕ Refusal} → r ≡ next_after_in s (biased_offset y) m → r ≡ next_after_in s (biased_offset z) m
next-same e s m p = p ∙ ap (λ (x : ℤ). next_after_in s (biased_offset x) m) e

pub date-same : {y z : ℤ} → y ≡ z → (m : ℕ) {d : Option Date} → d ≡ local_date (biased_offset y) m → d ≡ local_date (biased_offset z) m
date-same e m p = p ∙ ap (λ (x : ℤ). local_date (biased_offset x) m) e

-- ---- fixed entries (M6), and minutes beside a mark (Q5)

-- an entry matches a minute after h, up to m, just where its next firing after h comes by m
pub next-comes : (e : Entry) (h m : ℕ) → m ≤ last_minute → by_then (next_of e h) m ≡ passes (fires_at e) h m
unfolding next_of fires_at
next-comes e h m on = elim (dec_le h last_minute) [ yes k ↦ rw (le-leb h last_minute k) (within e.when) | no k ↦ rw (lt-leb h last_minute (lt_of_not-le k)) (past (lt_of_not-le k)) ]
  where
    o : ℕ
    o = biased_offset e.offset

    within : (when : When) → by_then (by_when when (Err at_boot_only) (λ s. next_after_in s o h)) m ≡ passes (λ k. by_when when false (λ s. matches_in s o k)) h m
    within Reboot = sym (none_passes (λ k. false) h m (λ k u v. refl))
    within (Timed times) = next-by times o h m on

    past : last_minute < h → false ≡ passes (fires_at e) h m
    past k = sym (none_passes (fires_at e) h m (λ i u v. absurd (omega arith)))
