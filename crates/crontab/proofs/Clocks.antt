-- The next firing of a table's entry is what the slow engine (N5) says, refusals included.
-- Assumes nothing.
use mathlib.Core.Path.{◌≡◌, refl}
use mathlib.Core.List.{List}
use Prim.Native.Nat.{ℕ}
use Rattle.std.specs.Prelude.{Err, Result, Ok}
use Rattle.refusal.specs.declared.Refusal.{Refusal}
use Rattle.refusal.specs.declared.Refusal.TheVariants.{AtBootOnly}
use Rattle.schedule.specs.Local.{biased_offset, next_after_in}
use Rattle.schedule.specs.Clocks.{clock_after_in}
use Rattle.schedule.proofs.Theorems.{slow-agrees}
use Rattle.field.specs.declared.Dialect.TheVariants.{Wrapping}
use Rattle.line.specs.declared.Rules.{Rules}
use Rattle.line.specs.declared.Kind.TheVariants.{System}
use Rattle.line.specs.declared.time.When.{When}
use Rattle.line.specs.declared.time.When.TheVariants.{Reboot, Timed}
use Rattle.crontab.specs.declared.entry.Entry.{Entry}
use Rattle.crontab.specs.Tables.{table_of, entry_in}
use Rattle.crontab.specs.Firings.{by_when, next_of, next_answer, next_in}
use Rattle.crontab.specs.Clocks.{clock_of, clock_answer, clock_in}

entry-by-clock : (e : Entry) (m : ℕ) → next_of e m ≡ clock_of e m
unfolding next_of clock_of
entry-by-clock e m = rw (go e.when)
  where
    o : ℕ
    o = biased_offset e.offset

    go : (w : When) → by_when w (Err AtBootOnly) (λ s. next_after_in s o m) ≡ by_when w (Err AtBootOnly) (λ s. clock_after_in s o m)
    go Reboot = refl
    go (Timed s) = rw (slow-agrees s o m)

pub next-by-clock : (rules : Rules) (table : List ℕ) (e m : ℕ) → next_in (table_of rules table) e m ≡ clock_in (table_of rules table) e m
unfolding next_in next_answer clock_in clock_answer
next-by-clock rules table e m = go (entry_in (table_of rules table) e)
  where
    go : (a : Result Entry Refusal) → next_answer a m ≡ clock_answer a m
    go (Ok e) = entry-by-clock e m
    go (Err refusal) = refl

-- used for entry 511 of a system table in the second dialect, from the calendar's first minute
pub clock-used : (table : List ℕ)
    → let t = table_of (record { kind = System; dialect = Wrapping }) table in next_in t 511 0 ≡ clock_in t 511 0
clock-used table = next-by-clock (record { kind = System; dialect = Wrapping }) table 511 0
