-- N4 for an entry of a table: a next firing that is answered is at most 21,036,960 minutes ahead, whatever the entry's offset.
-- Assumes nothing.
use mathlib.Core.Path.{◌≡◌}
use mathlib.Core.Bool.{Bool, true, false, cond}
use Prim.Native.Nat.{ℕ, ◌+◌, ◌≤◌}
use native.Mathlib.Omega.{arith}
use lib.Dec.{leb}
use Rattle.std.specs.Prelude.{Ok, Err, Result}
use Rattle.refusal.specs.declared.Refusal.{Refusal}
use Rattle.refusal.specs.declared.Refusal.TheVariants.{NotOnCalendar, AtBootOnly}
use Rattle.calendar.specs.Dates.{last_minute}
use Rattle.schedule.specs.Local.{biased_offset, next_after_in}
use Rattle.schedule.specs.Gap.{gap}
use Rattle.schedule.proofs.Theorems.{next-within-in}
use Rattle.line.specs.declared.time.When.{When}
use Rattle.line.specs.declared.time.When.TheVariants.{Reboot, Timed}
use Rattle.crontab.specs.declared.entry.Entry.{Entry}
use Rattle.crontab.specs.declared.table.Table.{Table}
use Rattle.crontab.specs.declared.table.TableFault.{TableFault}
use Rattle.crontab.specs.Tables.{entry_in}
use Rattle.crontab.specs.Firings.{by_when, next_of, next_answer, next_in}

entry-within : (e : Entry) (m n : ℕ) → next_of e m ≡ Ok n → n ≤ m + gap
unfolding next_of
entry-within e m n p = go (leb m last_minute) e.when p
  where
    o : ℕ
    o = biased_offset e.offset

    go : (t : Bool) (when : When) → cond t (by_when when (Err AtBootOnly) (λ s. next_after_in s o m)) (Err NotOnCalendar) ≡ Ok n → n ≤ m + gap
    go false when p = absurd (let z : ◌≡◌ {A = ℕ} 0 1 = cc in omega arith)
    go true Reboot p = absurd (let z : ◌≡◌ {A = ℕ} 0 1 = cc in omega arith)
    go true (Timed times) p = next-within-in times o m n p

pub next-in-gap : (t : Result Table TableFault) (i m n : ℕ) → next_in t i m ≡ Ok n → n ≤ m + gap
unfolding next_in next_answer
next-in-gap t i m n p = go (entry_in t i) p
  where
    go : (a : Result Entry Refusal) → next_answer a m ≡ Ok n → n ≤ m + gap
    go (Ok e) p = entry-within e m n p
    go (Err refusal) p = absurd (let z : ◌≡◌ {A = ℕ} 0 1 = cc in omega arith)
