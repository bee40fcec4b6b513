-- What is told of faults and dates, and what each lent run and buffer holds, for any table, rules, entry, minute, run and buffer: they are those of the crates below, with nothing
-- in between. EachAnswer has the answers.
-- Assumes nothing.
use mathlib.Core.Path.{◌≡◌, refl}
use mathlib.Core.List.{List}
use Prim.Native.Nat.{ℕ, ◌≤◌}
use borrow.Author.Tests.{le-leb}
use Rattle.std.specs.Prelude.{Ok, Result}
use Rattle.calendar.specs.Dates.{last_minute, date_at, date_of, minute_of}
use Rattle.line.specs.declared.Rules.{Rules}
use Rattle.crontab.specs.declared.table.Table.{Table}
use Rattle.crontab.specs.declared.table.TableFault.{TableFault}
use Rattle.crontab.specs.Tables.{table_of, column_in, line_in}
use Rattle.firings.specs.Calls.{firings_in, merged_in}
use Rattle.normal.specs.NormalForms.{normal_form}
use Rattle.records.specs.Calls.{compiled, decompiled}
use Rattle.reload.specs.Calls.{reload_tables}
use Rattle.runqueue.specs.Calls.{init_table, tick_table, pop_table}
use Rattle.eremothyn.specs.declared.dates.DatePart.TheVariants.{Year, Month, Day, Hour, Minute, Weekday}
use Rattle.eremothyn.specs.Answer.{result_number}
use Rattle.eremothyn.specs.Dates.{date_part, date_minute}
use Rattle.eremothyn.specs.Rules.{dialect_of, rules_of}
use Rattle.eremothyn.specs.Calls.{fault_line_call, fault_column_call, firings_run, merged_firings_minutes, merged_firings_entries}
use Rattle.eremothyn.specs.Calls.{normal_form_text, compile_records, decompile_text, queue_init_room, queue_tick_room, queue_pop_room, queue_reload_room}

module _ (s : List ℕ) (kind dialect : ℕ) where
  abbrev rules : Rules
  rules = rules_of kind dialect

  abbrev t : Result Table TableFault
  t = table_of rules s

  pub fault-answers : (fault_line_call s kind dialect ≡ line_in t) × (fault_column_call s kind dialect ≡ column_in t)
  fault-answers = (refl, refl)

  pub lists-are : (i a b : ℕ) (x y : List ℕ)
      → (firings_run s kind dialect i a b x ≡ (firings_in t i a b x).run)
      × (merged_firings_minutes s kind dialect a b x y ≡ (merged_in t a b x y).minutes)
      × (merged_firings_entries s kind dialect a b x y ≡ (merged_in t a b x y).entries)
  lists-are i a b x y = (refl, refl, refl)

  pub queues-are : (m : ℕ) (room new : List ℕ)
      → (queue_init_room s kind dialect room ≡ (init_table t room).room)
      × (queue_tick_room s kind dialect room m ≡ (tick_table t m room).room)
      × (queue_pop_room s kind dialect room ≡ (pop_table t room).room)
      × (queue_reload_room s new kind dialect room ≡ (reload_tables rules s new room).room)
  queues-are m room new = (refl, refl, refl, refl)

  pub texts-are : (buffer : List ℕ)
      → (normal_form_text s dialect buffer ≡ (normal_form (dialect_of dialect) s buffer).buffer)
      × (compile_records s dialect buffer ≡ (compiled (dialect_of dialect) s buffer).buffer)
      × (decompile_text s buffer ≡ (decompiled s buffer).buffer)
  texts-are buffer = (refl, refl, refl)

-- a date's parts, and its minute
pub date-answers : (m : ℕ) → m ≤ last_minute
    → let d = date_at m in
    (date_part m Year ≡ d.year) × (date_part m Month ≡ d.month) × (date_part m Day ≡ d.day)
    × (date_part m Hour ≡ d.hour) × (date_part m Minute ≡ d.minute) × (date_part m Weekday ≡ d.weekday)
unfolding date_part date_of result_number
date-answers m on = let e = le-leb m last_minute on in (rw e, rw e, rw e, rw e, rw e, rw e)

pub minute-answers : (year month day hour minute m : ℕ) → minute_of year month day hour minute ≡ Ok m
    → date_minute year month day hour minute ≡ m
unfolding date_minute result_number
minute-answers year month day hour minute m is = rw is
