-- The claims of C's numbers call by call, for any kind, dialect, table, entry, minute and lent bytes: each hypothesis and each part is here, so none can be added to a claim or
-- dropped from one.
-- Assumes nothing.
use mathlib.Core.Path.{◌≡◌}
use mathlib.Core.Bool.{false}
use mathlib.Core.List.{List}
use Prim.Native.Nat.{ℕ, ◌+◌, ◌≤◌}
use lib.ListN.{length}
use Rattle.std.specs.Prelude.{Ok}
use Rattle.octets.specs.Runs.{between}
use Rattle.calendar.specs.Dates.{date_of, minute_of}
use Rattle.line.specs.declared.Rules.{Rules}
use Rattle.crontab.specs.declared.entry.Entry.{Entry}
use Rattle.crontab.specs.Items.{items_of}
use Rattle.crontab.specs.Tables.{table_of, entry_in, command_in, refusal_in}
use Rattle.crontab.specs.Firings.{due_in, next_in}
use Rattle.crontab.specs.Owners.{owner_in}
use Rattle.crontab.specs.Settings.{setting_in, next_line_in}
use Rattle.firings.specs.Calls.{firings_in, merged_in}
use Rattle.firings.specs.Rising.{Kept}
use Rattle.normal.specs.NormalForms.{normal_form}
use Rattle.records.specs.Calls.{compiled, decompiled, record_fault}
use Rattle.reload.specs.Calls.{reload_tables}
use Rattle.runqueue.specs.Calls.{init_table, tick_table, pop_table, entry_table}
use Rattle.eremothyn.specs.declared.dates.DatePart.{DatePart}
use Rattle.eremothyn.specs.declared.entries.Place.{Place}
use Rattle.eremothyn.specs.declared.owners.Owned.{Owned}
use Rattle.eremothyn.specs.declared.settings.Shown.{Shown}
use Rattle.eremothyn.specs.Answer.{is_refused}
use Rattle.eremothyn.specs.Rules.{dialect_of, rules_of}
use Rattle.eremothyn.specs.Distinct.{granted, by_refusal, by_result, Tells, TellsFilled, Stays}
use Rattle.eremothyn.specs.Calls.{check_call, fault_line_call, fault_column_call, due_call, next_call, next_setting_call, normal_form_call, compile_call, decompile_call, stdin_length_call}
use Rattle.eremothyn.specs.Calls.{command_offset_call, command_length_call, queue_init_call, queue_tick_call, queue_pop_call, queue_entry_call, queue_reload_call, firings_call, merged_firings_call}
use Rattle.eremothyn.specs.Commands.{split_of, split_number}
use Rattle.eremothyn.specs.Dates.{date_part, date_minute, date_written, date_answer, date_run}
use Rattle.eremothyn.specs.Entries.{place_number}
use Rattle.eremothyn.specs.Owners.{owner_number}
use Rattle.eremothyn.specs.Settings.{setting_number}
use Rattle.eremothyn.proofs.Theorems.{answers-distinct, refused-stays, next-near, command-placed, never-reversed}

module _ (s : List ℕ) (kind dialect : ℕ) where
  abbrev rules : Rules
  rules = rules_of kind dialect

  -- ---- an answer is a refusal exactly where the call is refused

  pub tables-told : Tells (by_refusal (refusal_in (table_of rules s))) (check_call s kind dialect)
      × Tells granted (fault_line_call s kind dialect)
      × Tells granted (fault_column_call s kind dialect)
  tables-told = (answers-distinct.check rules s, answers-distinct.fault-line rules s, answers-distinct.fault-column rules s)

  pub entries-told : (i m : ℕ) (place : Place) (owned : Owned)
      → Tells (by_result (due_in (table_of rules s) i m)) (due_call s kind dialect i m)
      × Tells (by_result (next_in (table_of rules s) i m)) (next_call s kind dialect i m)
      × Tells (by_result (entry_in (table_of rules s) i)) (place_number (entry_in (table_of rules s) i) place)
      × Tells (by_result (owner_in rules s i)) (owner_number (owner_in rules s i) owned)
      × Tells (by_result (entry_in (table_of rules s) i)) (stdin_length_call s kind dialect i)
  entries-told i m place owned =
      (answers-distinct.due rules s i m, answers-distinct.next rules s i m, answers-distinct.line-to-command rules s i place, answers-distinct.owner rules s i owned, answers-distinct.stdin-length rules s i)

  pub settings-told : (i : ℕ) (shown : Shown)
      → Tells (by_result (setting_in (items_of rules s) i)) (setting_number (setting_in (items_of rules s) i) shown)
      × Tells (by_result (next_line_in (items_of rules s) i)) (next_setting_call s kind dialect i)
  settings-told i shown = (answers-distinct.setting rules s i shown, answers-distinct.next-setting rules s i)

  pub texts-told : (i : ℕ) (x y : List ℕ)
      → Tells (by_result (split_of rules s i x y).answer) (split_number (split_of rules s i x y).answer)
      × Tells (by_result (normal_form (dialect_of dialect) s x).answer) (normal_form_call s dialect x)
      × Tells (by_result (compiled (dialect_of dialect) s x).answer) (compile_call s dialect x)
      × Tells (by_result (decompiled s x).answer) (decompile_call s x)
      × (length s ≤ 4294967296 → Tells granted (record_fault s))
  texts-told i x y = (
    answers-distinct.split-command rules s i x y,
    answers-distinct.normal-form (dialect_of dialect) s x,
    answers-distinct.compile (dialect_of dialect) s x,
    answers-distinct.decompile s x,
    answers-distinct.record-fault s,
  )

  pub queues-told : (m place : ℕ) (room new : List ℕ)
      → Tells (by_result (init_table (table_of rules s) room).answer) (queue_init_call s kind dialect room)
      × Tells (by_result (reload_tables rules s new room).answer) (queue_reload_call s new kind dialect room)
      × Tells (by_result (tick_table (table_of rules s) m room).answer) (queue_tick_call s kind dialect room m)
      × Tells (by_result (pop_table (table_of rules s) room).answer) (queue_pop_call s kind dialect room)
      × Tells (by_result (entry_table (table_of rules s) place room)) (queue_entry_call s kind dialect room place)
  queues-told m place room new = (
    answers-distinct.queue-init rules s room,
    answers-distinct.queue-reload rules s new room,
    answers-distinct.queue-tick rules s room m,
    answers-distinct.queue-pop rules s room,
    answers-distinct.queue-entry rules s room place,
  )

  pub lists-told : (i a b : ℕ) (x y : List ℕ)
      → TellsFilled (firings_in (table_of rules s) i a b x).answer (firings_call s kind dialect i a b x)
      × TellsFilled (merged_in (table_of rules s) a b x y).answer (merged_firings_call s kind dialect a b x y)
  lists-told i a b x y = (answers-distinct.firings rules s i a b x, answers-distinct.merged-firings rules s a b x y)

  -- ---- a refused call leaves what it is lent

  pub texts-stay : (i : ℕ) (x y : List ℕ)
      → (Stays (by_result (split_of rules s i x y).answer) x (split_of rules s i x y).shell × Stays (by_result (split_of rules s i x y).answer) y (split_of rules s i x y).input)
      × Stays (by_result (normal_form (dialect_of dialect) s x).answer) x (normal_form (dialect_of dialect) s x).buffer
      × Stays (by_result (compiled (dialect_of dialect) s x).answer) x (compiled (dialect_of dialect) s x).buffer
      × Stays (by_result (decompiled s x).answer) x (decompiled s x).buffer
  texts-stay i x y = (
    refused-stays.split-command rules s i x y,
    refused-stays.normal-form (dialect_of dialect) s x,
    refused-stays.compile (dialect_of dialect) s x,
    refused-stays.decompile s x,
  )

  pub queues-stay : (m : ℕ) (room new : List ℕ)
      → Stays (by_result (init_table (table_of rules s) room).answer) room (init_table (table_of rules s) room).room
      × Stays (by_result (reload_tables rules s new room).answer) room (reload_tables rules s new room).room
      × Stays (by_result (tick_table (table_of rules s) m room).answer) room (tick_table (table_of rules s) m room).room
      × Stays (by_result (pop_table (table_of rules s) room).answer) room (pop_table (table_of rules s) room).room
  queues-stay m room new =
      (refused-stays.queue-init rules s room, refused-stays.queue-reload rules s new room, refused-stays.queue-tick rules s room m, refused-stays.queue-pop rules s room)

  pub lists-kept : (i a b : ℕ) (x y : List ℕ)
      → Kept (firings_in (table_of rules s) i a b x).answer x (firings_in (table_of rules s) i a b x).run
      × (Kept (merged_in (table_of rules s) a b x y).answer x (merged_in (table_of rules s) a b x y).minutes
      × Kept (merged_in (table_of rules s) a b x y).answer y (merged_in (table_of rules s) a b x y).entries)
  lists-kept i a b x y = (refused-stays.firings rules s i a b x, refused-stays.merged-firings rules s a b x y)

  -- ---- the others

  pub near-any : (i m : ℕ) → is_refused (next_call s kind dialect i m) ≡ false → next_call s kind dialect i m ≤ m + 21036960
  near-any i m taken = next-near s kind dialect i m taken

  pub command-any : (i : ℕ) (e : Entry) → entry_in (table_of rules s) i ≡ Ok e
      → between s (command_offset_call s kind dialect i) (command_offset_call s kind dialect i + command_length_call s kind dialect i) ≡ command_in s (entry_in (table_of rules s) i)
  command-any i e found = command-placed rules s i e found

  pub never-any : (dialect ≡ 0 → ⊥) → check_call s kind dialect ≡ 4294967303 → ⊥
  never-any second = never-reversed kind dialect s second

-- dates
pub dates-any : (m year month day hour minute : ℕ) (part : DatePart) (run : List ℕ)
    → Tells (by_result (date_of m)) (date_part m part)
    × Tells (by_result (minute_of year month day hour minute)) (date_minute year month day hour minute)
    × Tells (by_result (date_written m run)) (date_answer m run)
    × Stays (by_result (date_written m run)) run (date_run m run)
dates-any m year month day hour minute part run = (
  answers-distinct.year-to-weekday m part,
  answers-distinct.minute-of-date year month day hour minute,
  answers-distinct.date m run,
  refused-stays.date m run,
)
