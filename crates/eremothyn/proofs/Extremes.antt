-- The two sentences of the C header, used for every call: entry 511 of a system table in the second dialect, the calendar's last minute, and any bytes.
-- An added hypothesis, or a part less of a conclusion, breaks one of these.
-- Assumes nothing.
use Rattle.std.specs.Prelude.{Result, Err, Ok}
use mathlib.Core.Path.{◌≡◌, subst}
use mathlib.Core.Bool.{true, false, false≢true}
use mathlib.Core.List.{List}
use Prim.Native.Nat.{ℕ, ◌+◌, ◌≤◌}
use lib.ListN.{length}
use Rattle.std.specs.Prelude.{Result, Ok, Err, IsOk, Bool}
use Rattle.refusal.specs.declared.Refusal.{Refusal}
use Rattle.refusal.specs.declared.Refusal.TheVariants.{NotOnCalendar}
use Rattle.refusal.specs.Numbers.{number_of}
use Rattle.calendar.specs.declared.Date.{Date}
use Rattle.calendar.specs.Dates.{date_of, minute_of}
use Rattle.field.specs.declared.Dialect.{Dialect}
use Rattle.line.specs.declared.Rules.{Rules}
use Rattle.line.specs.declared.user.Owner.{Owner}
use Rattle.crontab.specs.declared.setting.Setting.{Setting}
use Rattle.crontab.specs.Items.{items_of}
use Rattle.crontab.specs.Tables.{table_of, entry_in, refusal_in}
use Rattle.crontab.specs.Settings.{setting_in, next_line_in}
use Rattle.crontab.specs.Firings.{due_in, next_in}
use Rattle.crontab.specs.Owners.{owner_in}
use Rattle.command.specs.declared.Lengths.{Lengths}
use Rattle.normal.specs.NormalForms.{normal_form}
use Rattle.records.specs.Calls.{compiled, decompiled, record_fault}
use Rattle.std.specs.Prelude.{Option, Some, None, Result, Ok, Err}
use Rattle.runqueue.specs.Calls.{init_table, tick_table, pop_table, entry_table}
use Rattle.reload.specs.Calls.{reload_tables}
use Rattle.firings.specs.declared.Filled.{Filled}
use Rattle.firings.specs.Calls.{firings_in, merged_in}
use Rattle.firings.specs.Rising.{Kept}
use Rattle.eremothyn.specs.declared.dates.DatePart.{DatePart}
use Rattle.eremothyn.specs.declared.settings.Shown.{Shown}
use Rattle.eremothyn.specs.declared.entries.Place.{Place}
use Rattle.eremothyn.specs.declared.owners.Owned.{Owned}
use Rattle.eremothyn.specs.Rules.{rules_of}
use Rattle.eremothyn.specs.Answer.{is_refused}
use Rattle.eremothyn.specs.Dates.{date_part, date_minute, date_written, date_answer, date_run}
use Rattle.eremothyn.specs.Calls.{fault_line_call, fault_column_call, stdin_length_call}
use Rattle.eremothyn.specs.Tables.{check_number}
use Rattle.eremothyn.specs.Entries.{due_number, next_number, place_number}
use Rattle.eremothyn.specs.Settings.{setting_number, line_number}
use Rattle.eremothyn.specs.Owners.{owner_number}
use Rattle.eremothyn.specs.Commands.{split_number, split_of, stdin_length}
use Rattle.eremothyn.specs.NormalForms.{normal_number}
use Rattle.eremothyn.specs.Queue.{tick_number, pop_number}
use Rattle.eremothyn.specs.Distinct.{by_refusal, by_result, Tells, Stays}
use Rattle.eremothyn.proofs.Theorems.{answers-distinct, refused-stays}
use Rattle.crontab.specs.declared.entry.Entry.{Entry}

abbrev system : Rules
system = rules_of 1 1

-- ---- what a number tells

-- of any answer: it is above 4,294,967,296 and the macro is true just where the call is refused
abbrev Granted : ℕ → Type 0
Granted number = (is_refused number ≡ false) × (number ≤ 4294967296)

abbrev Refusing : ℕ → ℕ → Type 0
Refusing n number = (is_refused number ≡ true) × (number ≡ 4294967296 + n) × ((1 ≤ n) × (n ≤ 255))

-- where there is a result
ok-granted : {A : Type 0} (a : Result A Refusal) (number : ℕ) → IsOk a → Tells (by_result a) number → Granted number
ok-granted (Ok x) number e t = t
ok-granted (Err n) number e t = absurd (false≢true e)

pub dates-told : (minute n : ℕ) (part : DatePart) (run : List ℕ)
    → (IsOk (date_of minute) → Granted (date_part minute part))
    × (IsOk (date_written minute run) → Granted (date_answer minute run))
    × (IsOk (minute_of 9999 12 31 23 minute) → Granted (date_minute 9999 12 31 23 minute))
    × (date_written minute run ≡ Err NotOnCalendar → Refusing 14 (date_answer minute run))
unfolding number_of
dates-told minute n part run = (
  (λ e. ok-granted (date_of minute) (date_part minute part) e (answers-distinct.year-to-weekday minute part)),
  (λ e. ok-granted (date_written minute run) (date_answer minute run) e (answers-distinct.date minute run)),
  (λ e. ok-granted (minute_of 9999 12 31 23 minute) (date_minute 9999 12 31 23 minute) e (answers-distinct.minute-of-date 9999 12 31 23 minute)),
  (λ e. subst (λ (a : Result Date Refusal). Tells (by_result a) (date_answer minute run)) e (answers-distinct.date minute run)),
)

module _ (table : List ℕ) where
  pub table-told :
      Granted (fault_line_call table 1 1)
      × Granted (fault_column_call table 1 1)
      × (refusal_in (table_of system table) ≡ 27 → Refusing 27 (check_number (table_of system table)))
  table-told = (
    answers-distinct.fault-line system table,
    answers-distinct.fault-column system table,
    (λ e. subst (λ (r : ℕ). Tells (by_refusal r) (check_number (table_of system table))) e (answers-distinct.check system table)),
  )

  pub firing-told : (m : ℕ) (n : Refusal)
      → (due_in (table_of system table) 511 4223371679 ≡ Ok true → Granted (due_number (Ok true)))
      × (due_in (table_of system table) 511 4223371680 ≡ Err n → Refusing (number_of n) (due_number (Err n)))
      × (next_in (table_of system table) 511 0 ≡ Ok m → Granted (next_number (Ok m)))
      × (next_in (table_of system table) 511 4223371679 ≡ Err n → Refusing (number_of n) (next_number (Err n)))
  firing-told m n = (
    (λ e. subst (λ (a : Result Bool Refusal). Tells (by_result a) (due_number a)) e (answers-distinct.due system table 511 4223371679)),
    (λ e. subst (λ (a : Result Bool Refusal). Tells (by_result a) (due_number a)) e (answers-distinct.due system table 511 4223371680)),
    (λ e. subst (λ (a : Result ℕ Refusal). Tells (by_result a) (next_number a)) e (answers-distinct.next system table 511 0)),
    (λ e. subst (λ (a : Result ℕ Refusal). Tells (by_result a) (next_number a)) e (answers-distinct.next system table 511 4223371679)),
  )

  pub parts-told : (n : Refusal) (k : ℕ) (place : Place) (owned : Owned) (shown : Shown) (o : Owner) (x : Setting)
      → (entry_in (table_of system table) 511 ≡ Err n → Refusing (number_of n) (place_number (Err n) place))
      × (owner_in system table 511 ≡ Ok o → Granted (owner_number (Ok o) owned))
      × (setting_in (items_of system table) 49152 ≡ Ok x → Granted (setting_number (Ok x) shown))
      × (next_line_in (items_of system table) 0 ≡ Ok k → Granted (line_number (Ok k)))
      × (entry_in (table_of system table) 511 ≡ Err n → Refusing (number_of n) (stdin_length_call table 1 1 511))
  parts-told n k place owned shown o x = (
    (λ e. subst (λ (a : Result Entry Refusal). Tells (by_result a) (place_number a place)) e (answers-distinct.line-to-command system table 511 place)),
    (λ e. subst (λ (a : Result Owner Refusal). Tells (by_result a) (owner_number a owned)) e (answers-distinct.owner system table 511 owned)),
    (λ e. subst (λ (a : Result Setting Refusal). Tells (by_result a) (setting_number a shown)) e (answers-distinct.setting system table 49152 shown)),
    (λ e. subst (λ (a : Result ℕ Refusal). Tells (by_result a) (line_number a)) e (answers-distinct.next-setting system table 0)),
    (λ e. subst (λ (a : Result Entry Refusal). Tells (by_result a) (stdin_length system table 511)) e (answers-distinct.stdin-length system table 511)),
  )

  pub written-told : (d : Dialect) (n : ℕ) (r : Refusal) (shell input buffer records : List ℕ)
      → ((split_of system table 511 shell input).answer ≡ Err r → Refusing (number_of r) (split_number (Err r)))
      × ((normal_form d table buffer).answer ≡ Ok n → Granted (normal_number (Ok n)))
      × ((compiled d table buffer).answer ≡ Ok n → Granted (normal_number (Ok n)))
      × ((decompiled records buffer).answer ≡ Err r → Refusing (number_of r) (normal_number (Err r)))
      × (length records ≤ 4294967296 → Granted (record_fault records))
  written-told d n r shell input buffer records = (
    (λ e. subst (λ (a : Result Lengths Refusal). Tells (by_result a) (split_number a)) e (answers-distinct.split-command system table 511 shell input)),
    (λ e. subst (λ (a : Result ℕ Refusal). Tells (by_result a) (normal_number a)) e (answers-distinct.normal-form d table buffer)),
    (λ e. subst (λ (a : Result ℕ Refusal). Tells (by_result a) (normal_number a)) e (answers-distinct.compile d table buffer)),
    (λ e. subst (λ (a : Result ℕ Refusal). Tells (by_result a) (normal_number a)) e (answers-distinct.decompile records buffer)),
    answers-distinct.record-fault records,
  )

  pub queue-told : (n : ℕ) (r : Refusal) (new room : List ℕ)
      → ((init_table (table_of system table) room).answer ≡ Ok n → Granted (tick_number (Ok n)))
      × ((reload_tables system table new room).answer ≡ Err r → Refusing (number_of r) (tick_number (Err r)))
      × ((tick_table (table_of system table) 4223371680 room).answer ≡ Err r → Refusing (number_of r) (tick_number (Err r)))
      × ((pop_table (table_of system table) room).answer ≡ Ok None → Granted (pop_number (Ok None)))
      × (entry_table (table_of system table) 511 room ≡ Ok (Some n) → Granted (pop_number (Ok (Some n))))
  queue-told n r new room = (
    (λ e. subst (λ (a : Result ℕ Refusal). Tells (by_result a) (tick_number a)) e (answers-distinct.queue-init system table room)),
    (λ e. subst (λ (a : Result ℕ Refusal). Tells (by_result a) (tick_number a)) e (answers-distinct.queue-reload system table new room)),
    (λ e. subst (λ (a : Result ℕ Refusal). Tells (by_result a) (tick_number a)) e (answers-distinct.queue-tick system table room 4223371680)),
    (λ e. subst (λ (a : Result (Option ℕ) Refusal). Tells (by_result a) (pop_number a)) e (answers-distinct.queue-pop system table room)),
    (λ e. subst (λ (a : Result (Option ℕ) Refusal). Tells (by_result a) (pop_number a)) e (answers-distinct.queue-entry system table room 511)),
  )

  -- ---- a refused call leaves what it is lent

  pub lent-stays : (d : Dialect) (minute : ℕ) (n : Refusal) (one two : List ℕ)
      → (date_written minute one ≡ Err NotOnCalendar → date_run minute one ≡ one)
      × ((split_of system table 511 one two).answer ≡ Err n
      → ((split_of system table 511 one two).shell ≡ one) × ((split_of system table 511 one two).input ≡ two))
      × ((normal_form d table one).answer ≡ Err n → (normal_form d table one).buffer ≡ one)
      × ((compiled d table one).answer ≡ Err n → (compiled d table one).buffer ≡ one)
      × ((decompiled two one).answer ≡ Err n → (decompiled two one).buffer ≡ one)
  lent-stays d minute n one two = (
    (λ e. subst (λ (a : Result Date Refusal). Stays (by_result a) one (date_run minute one)) e (refused-stays.date minute one)),
    (λ e.
        let s = split_of system table 511 one two in
        subst (λ (a : Result Lengths Refusal). Stays (by_result a) one s.shell × Stays (by_result a) two s.input) e (refused-stays.split-command system table 511 one two)),
    (λ e. subst (λ (a : Result ℕ Refusal). Stays (by_result a) one (normal_form d table one).buffer) e (refused-stays.normal-form d table one)),
    (λ e. subst (λ (a : Result ℕ Refusal). Stays (by_result a) one (compiled d table one).buffer) e (refused-stays.compile d table one)),
    (λ e. subst (λ (a : Result ℕ Refusal). Stays (by_result a) one (decompiled two one).buffer) e (refused-stays.decompile two one)),
  )

  pub queue-stays : (n : Refusal) (new room : List ℕ)
      → let t = table_of system table in
      ((init_table t room).answer ≡ Err n → (init_table t room).room ≡ room)
      × ((reload_tables system table new room).answer ≡ Err n → (reload_tables system table new room).room ≡ room)
      × ((tick_table t 4223371680 room).answer ≡ Err n → (tick_table t 4223371680 room).room ≡ room)
      × ((pop_table t room).answer ≡ Err n → (pop_table t room).room ≡ room)
  queue-stays n new room =
      let t = table_of system table in (
        (λ e. subst (λ (a : Result ℕ Refusal). Stays (by_result a) room (init_table t room).room) e (refused-stays.queue-init system table room)),
        (λ e. subst (λ (a : Result ℕ Refusal). Stays (by_result a) room (reload_tables system table new room).room) e (refused-stays.queue-reload system table new room)),
        (λ e. subst (λ (a : Result ℕ Refusal). Stays (by_result a) room (tick_table t 4223371680 room).room) e (refused-stays.queue-tick system table room 4223371680)),
        (λ e. subst (λ (a : Result (Option ℕ) Refusal). Stays (by_result a) room (pop_table t room).room) e (refused-stays.queue-pop system table room)),
      )

  pub lists-stay : (n : Refusal) (a b : ℕ) (minutes entries : List ℕ)
      → let t = table_of system table in
      ((firings_in t 511 a b minutes).answer ≡ Err n → (firings_in t 511 a b minutes).run ≡ minutes)
      × ((merged_in t a b minutes entries).answer ≡ Err n
      → ((merged_in t a b minutes entries).minutes ≡ minutes) × ((merged_in t a b minutes entries).entries ≡ entries))
  lists-stay n a b minutes entries =
      let t = table_of system table in
      let s = merged_in t a b minutes entries in (
        (λ e. subst (λ (x : Result Filled Refusal). Kept x minutes (firings_in t 511 a b minutes).run) e (refused-stays.firings system table 511 a b minutes)),
        (λ e. subst (λ (x : Result Filled Refusal). Kept x minutes s.minutes × Kept x entries s.entries) e (refused-stays.merged-firings system table a b minutes entries)),
      )
