-- 400 years later the next firing is as much later, by table bytes; and where it isn't.
-- Assumes nothing.
use mathlib.Core.Path.{◌≡◌}
use mathlib.Core.Logic.{◌↔◌}
use mathlib.Core.Bool.{Bool, true, false, cond}
use mathlib.Core.List.{List}
use Prim.Native.Nat.{ℕ, ◌+◌, ◌-◌}
use native.Mathlib.Omega.{arith}
use lib.Dec.{ltb}
use lib.ListN.{get_or}
use borrow.Author.Tests.{le-leb}
use Rattle.std.specs.Prelude.{Ok, Err, Result}
use Rattle.refusal.specs.declared.Refusal.{Refusal}
use Rattle.refusal.specs.declared.Refusal.TheVariants.{NoSuchEntry, AtBootOnly}
use Rattle.calendar.specs.Dates.{last_minute, cycle_minutes}
use Rattle.schedule.specs.Local.{biased_offset, next_after_in}
use Rattle.schedule.proofs.Theorems.{next-shifts-in}
use Rattle.field.specs.declared.Dialect.TheVariants.{Wrapping}
use Rattle.line.specs.declared.Rules.{Rules}
use Rattle.line.specs.declared.Kind.TheVariants.{System}
use Rattle.line.specs.declared.time.When.{When}
use Rattle.line.specs.declared.time.When.TheVariants.{Reboot, Timed}
use Rattle.crontab.specs.declared.entry.Entry.{Entry}
use Rattle.crontab.specs.declared.table.Table.{Table}
use Rattle.crontab.specs.Tables.{table_of, entry_in, blank_entry}
use Rattle.crontab.specs.Firings.{by_when, next_of, next_answer, next_in}
use Rattle.crontab.specs.declared.table.TableFault.{TableFault}
use Rattle.runqueue.specs.Jobs.{job_at}
use Rattle.runqueue.specs.Demand.{biased_offset_of}
use Rattle.runqueue.specs.Chain.{OnBoth, Shifting, NextShifts, AnswerShifts}
use Rattle.runqueue.proofs.Chains.{link_at}

refused-at : {k j : Refusal} {m n : ℕ} → (Err k ≡ Ok m) ↔ (Err j ≡ Ok n)
refused-at = ((λ e. absurd (let z : ◌≡◌ {A = ℕ} 0 1 = cc in omega arith)), (λ e. absurd (let z : ◌≡◌ {A = ℕ} 0 1 = cc in omega arith)))

module _ (m n : ℕ) where
  -- what is needed: the start's answer is then on the calendar too
  record Shifted (o : ℕ) : Type 0 where
    start : OnBoth o m
    shifted : OnBoth o (m + cycle_minutes)
    other : OnBoth o (n + cycle_minutes)

  entry-shifts : (x : Entry) → Shifted (biased_offset x.offset) → (next_of x m ≡ Ok n) ↔ (next_of x (m + cycle_minutes) ≡ Ok (n + cycle_minutes))
  unfolding next_of
  entry-shifts x s = rw (le-leb m last_minute s.start.utc, le-leb (m + cycle_minutes) last_minute s.shifted.utc) (go x.when)
    where
      o : ℕ
      o = biased_offset x.offset

      go : (w : When)
          → (by_when w (Err AtBootOnly) (λ r. next_after_in r o m) ≡ Ok n)
          ↔ (by_when w (Err AtBootOnly) (λ r. next_after_in r o (m + cycle_minutes)) ≡ Ok (n + cycle_minutes))
      go Reboot = refused-at
      go (Timed r) = next-shifts-in r o m n s.start.from s.other.utc s.other.to

  table-shifts : (t : Result Table TableFault) (e : ℕ) → Shifted (biased_offset (job_at t e).offset)
      → (next_in t e m ≡ Ok n) ↔ (next_in t e (m + cycle_minutes) ≡ Ok (n + cycle_minutes))
  unfolding job_at next_in entry_in next_answer
  table-shifts (Err f) e s = refused-at
  table-shifts (Ok y) e s = go (ltb e y.count)
    where
      x : Entry
      x = get_or y.entries e blank_entry

      found : Bool → Result Entry Refusal
      found there = cond there (Ok x) (Err NoSuchEntry)

      go : (there : Bool) → (next_answer (found there) m ≡ Ok n) ↔ (next_answer (found there) (m + cycle_minutes) ≡ Ok (n + cycle_minutes))
      go false = refused-at
      go true = entry-shifts x s

pub answer-shifts : AnswerShifts
answer-shifts rules table e m n s =
    table-shifts m n (table_of rules table) e (record { start = s.start; shifted = s.shifted; other = s.other })

-- the shifted start's answer is later than it, so that its minute 400 years before is the start's answer
pub next-shifts : NextShifts
next-shifts rules table e m n n' s p q =
    let later = (link_at rules table e (m + cycle_minutes) n' q).0 in
    let back : n' - cycle_minutes + cycle_minutes ≡ n' = omega arith in
    let r : next_in (table_of rules table) e m ≡ Ok (n' - cycle_minutes) =
    (table-shifts m (n' - cycle_minutes) (table_of rules table) e (record { start = s.start; shifted = s.shifted; other = rw back s.other })).1
    (rw back q)
    in
    let same : n ≡ n' - cycle_minutes = cc in
    omega arith

-- used for entry 511 of a system table in the second dialect: an answer a whole gap on is shifted as any other
pub shifts-last : (table : List ℕ) (m n' : ℕ)
    → let rules : Rules = record { kind = System; dialect = Wrapping } in
    let t = table_of rules table in
    Shifting (biased_offset_of rules table 511) m (m + 21036960) n' → next_in t 511 m ≡ Ok (m + 21036960) → next_in t 511 (m + cycle_minutes) ≡ Ok n' → n' ≡ m + 231416640
shifts-last table m n' s p q =
    let e = next-shifts (record { kind = System; dialect = Wrapping }) table 511 m (m + 21036960) n' s p q in omega (arith, e)
