-- Who joins: the entries that are chosen for a fresh line and for an announced minute are those of which the steps speak.
-- Assumes nothing.
use mathlib.Core.Path.{◌≡◌, refl, ◌∙◌}
use mathlib.Core.Bool.{true, false, not, ◌&&◌, ◌||◌}
use Prim.Native.Nat.{ℕ, ◌≤◌, ◌<◌}
use native.Mathlib.Omega.{arith}
use borrow.Author.Tests.{lt-ltb, le-leb}
use Rattle.std.specs.Prelude.{Option, Result, Ok}
use Rattle.octets.specs.BitSets.{has_member}
use Rattle.octets.proofs.BitSets.{bit-set-member}
use Rattle.calendar.specs.Dates.{last_minute}
use Rattle.schedule.specs.declared.jump.Case.{Case}
use Rattle.schedule.specs.Local.{biased_offset, matches_in}
use Rattle.schedule.specs.Jumps.{case_of, judged}
use Rattle.schedule.proofs.Theorems.{judged-unfixed}
use Rattle.line.specs.declared.time.When.{When}
use Rattle.line.specs.declared.time.When.TheVariants.{Reboot, Timed}
use Rattle.crontab.specs.declared.entry.Entry.{Entry}
use Rattle.crontab.specs.declared.table.Table.{Table}
use Rattle.crontab.specs.declared.table.TableFault.{TableFault}
use Rattle.crontab.specs.declared.select.Selection.{Selection}
use Rattle.crontab.proofs.Selections.{selected-good}
use Rattle.crontab.specs.declared.select.Selector.{Selector}
use Rattle.crontab.specs.declared.select.Selector.TheVariants.{AtBoot, At}
use Rattle.crontab.specs.Limits.{max_entries}
use Rattle.crontab.specs.Firings.{by_when, is_boot, is_fixed, fires_at}
use Rattle.crontab.specs.Selections.{is_selected, bit_set_words, choice, selected_in}
use Rattle.fifo.specs.Steps.{calls}
use Rattle.runqueue.specs.Jobs.{job_at, jobs_of}
use Rattle.crontab.specs.Tables.{count_in, table_entries}

-- an entry that a minute calls is time-based
called-timed : (e : Entry) (case : Case) (minute : ℕ)
    → judged case (is_fixed e) (fires_at e) minute ≡ (not (is_boot e) && judged case (is_fixed e) (fires_at e) minute)
unfolding is_boot is_fixed fires_at
called-timed e case minute = go e.when
  where
    go : (w : When)
        → let called = judged case (by_when w false (λ s. not (s.stars.minutes || s.stars.hours))) (λ m. by_when w false (λ s. matches_in s (biased_offset e.offset) m)) minute in
        called ≡ (not (by_when w true (λ s. false)) && called)
    go Reboot = judged-unfixed case (λ m. false) minute
    go (Timed s) = refl

module _ (t : Result Table TableFault) (few : count_in t ≤ max_entries) where
  -- an entry's mark
  marked-at : (which : Selector) {x : Selection} → Ok x ≡ selected_in which t → (e : ℕ) → e < count_in t → has_member x.members e ≡ is_selected which (job_at t e)
  unfolding choice job_at
  marked-at which is e h =
      rw (selected-good (is_selected which) t is).2
      (bit-set-member bit_set_words (choice (is_selected which) (table_entries t)) (count_in t) (omega arith) e ∙ rw (lt-ltb e (count_in t) h))

  pub marked-boot : {x : Selection} → Ok x ≡ selected_in AtBoot t → (e : ℕ) → e < count_in t → has_member x.members e ≡ (jobs_of t).boot e
  unfolding is_selected jobs_of
  marked-boot is e h = marked-at AtBoot is e h

  pub marked-due : (mark : Option ℕ) (minute : ℕ) {x : Selection} → Ok x ≡ selected_in (At minute (case_of mark minute)) t → minute ≤ last_minute → (e : ℕ) → e < count_in t
      → has_member x.members e ≡ (not ((jobs_of t).boot e) && calls (jobs_of t) mark minute e)
  unfolding is_selected jobs_of calls
  marked-due mark minute is on e h =
      marked-at (At minute (case_of mark minute)) is e h ∙ rw (le-leb minute last_minute on) (called-timed (job_at t e) (case_of mark minute) minute)
