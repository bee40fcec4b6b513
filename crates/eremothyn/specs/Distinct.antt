-- Two promises of the C header. EREMOTHYN_IS_REFUSED is true of an answer just if the call is refused, whatever it was lent (A5). And a
-- refused call changes nothing that it is lent (R40). Both are proved in proofs/Theorems.
-- Assumes nothing.
use Rattle.std.specs.Prelude.{◌≡◌, ℕ, zero, suc, ◌+◌, ◌≤◌, ◌<◌, List, [], ◌∷◌, true, false, length, get_or, Result, Ok, Err}
use Rattle.std.proofs.Common.{ap, arith}
use Rattle.refusal.specs.declared.Refusal.{Refusal}
use Rattle.refusal.specs.Numbers.{number_of, IsRefusal}
use Rattle.calendar.specs.Dates.{date_of, minute_of}
use Rattle.field.specs.declared.Dialect.{Dialect}
use Rattle.line.specs.declared.Rules.{Rules}
use Rattle.crontab.specs.Items.{items_of}
use Rattle.crontab.specs.Tables.{table_of, entry_in, column_in, line_in, refusal_in}
use Rattle.crontab.specs.Settings.{setting_in, next_line_in}
use Rattle.crontab.specs.Firings.{due_in, next_in}
use Rattle.normal.specs.NormalForms.{normal_form}
use Rattle.records.specs.Calls.{compiled, decompiled, record_fault}
use Rattle.runqueue.specs.Calls.{init_table, tick_table, pop_table, entry_table}
use Rattle.reload.specs.Calls.{reload_tables}
use Rattle.firings.specs.declared.Filled.{Filled}
use Rattle.firings.specs.declared.Filled.TheVariants as list
use Rattle.firings.specs.Calls.{firings_in, merged_in}
use Rattle.firings.specs.Rising.{Kept}
use Rattle.eremothyn.specs.declared.dates.DatePart.{DatePart}
use Rattle.eremothyn.specs.declared.settings.Shown.{Shown}
use Rattle.eremothyn.specs.Answer.{refused_from, more_from, is_refused}
use Rattle.eremothyn.specs.Dates.{date_part, date_minute, date_written, date_answer, date_run}
use Rattle.eremothyn.specs.Tables.{check_number}
use Rattle.eremothyn.specs.declared.entries.Place.{Place}
use Rattle.eremothyn.specs.Entries.{due_number, next_number, place_number}
use Rattle.eremothyn.specs.Settings.{setting_number, line_number}
use Rattle.eremothyn.specs.declared.owners.Owned.{Owned}
use Rattle.crontab.specs.Owners.{owner_in}
use Rattle.eremothyn.specs.Owners.{owner_number}
use Rattle.eremothyn.specs.Commands.{split_number, split_of, stdin_length}
use Rattle.eremothyn.specs.NormalForms.{normal_number}
use Rattle.eremothyn.specs.Queue.{tick_number, pop_number}
use Rattle.eremothyn.specs.Lists.{filled_number}

-- ---- whether an answer is a refusal, and which

-- A5: an answer is granted, or a refusal with its number
pub data Outcome : Type 0 where
  granted : Outcome
  refused : ℕ → Outcome

-- A5: by a record's refusal, 0 if there is none
abbrev pub by_refusal : ℕ → Outcome
by_refusal zero = granted
by_refusal (suc n) = refused (suc n)

-- A3, A5: the call has a result, or is refused; that nothing waits is a result
abbrev pub by_result : {A : Type 0} → Result A Refusal → Outcome
by_result (Ok value) = granted
by_result (Err refusal) = refused (number_of refusal)

-- ---- refusals by the number that a C caller gets

-- A2, A5: a refusal: the macro is true of it, and its number is what is left
abbrev pub TellsRefused : ℕ → ℕ → Type 0
TellsRefused n number = (is_refused number ≡ true) × (number ≡ refused_from + n) × IsRefusal n

-- A5: the macro is false of any other answer, and no other is above 4,294,967,296
abbrev pub Tells : Outcome → ℕ → Type 0
Tells granted number = (is_refused number ≡ false) × (number ≤ refused_from)
Tells (refused n) number = TellsRefused n number

-- A4, A5: a list's number is a count, a count where more remain, or a refusal
abbrev pub TellsFilled : Result Filled Refusal → ℕ → Type 0
TellsFilled (Ok (list.All n)) number = (is_refused number ≡ false) × (number < refused_from)
TellsFilled (Ok (list.More n)) number = (is_refused number ≡ false) × (more_from ≤ number) × (number < more_from + refused_from)
TellsFilled (Err refusal) number = TellsRefused (number_of refusal) number

-- A5, A7: for every call, whatever is asked and lent
pub record AnswersDistinct : Type 0 where
  pub year-to-weekday : (minute : ℕ) (part : DatePart) → Tells (by_result (date_of minute)) (date_part minute part)
  pub minute-of-date : (year month day hour minute : ℕ)
      → Tells (by_result (minute_of year month day hour minute)) (date_minute year month day hour minute)
  pub date : (minute : ℕ) (run : List ℕ) → Tells (by_result (date_written minute run)) (date_answer minute run)
  pub check : (rules : Rules) (table : List ℕ) → Tells (by_refusal (refusal_in (table_of rules table))) (check_number (table_of rules table))
  pub fault-line : (rules : Rules) (table : List ℕ) → Tells granted (line_in (table_of rules table))
  pub fault-column : (rules : Rules) (table : List ℕ) → Tells granted (column_in (table_of rules table))
  pub due : (rules : Rules) (table : List ℕ) (i minute : ℕ) → let a = due_in (table_of rules table) i minute in Tells (by_result a) (due_number a)
  pub next : (rules : Rules) (table : List ℕ) (i minute : ℕ) → let a = next_in (table_of rules table) i minute in Tells (by_result a) (next_number a)
  pub line-to-command : (rules : Rules) (table : List ℕ) (i : ℕ) (what : Place)
      → let a = entry_in (table_of rules table) i in Tells (by_result a) (place_number a what)
  pub setting : (rules : Rules) (table : List ℕ) (line : ℕ) (what : Shown)
      → let a = setting_in (items_of rules table) line in Tells (by_result a) (setting_number a what)
  pub next-setting : (rules : Rules) (table : List ℕ) (line : ℕ) → let a = next_line_in (items_of rules table) line in Tells (by_result a) (line_number a)
  pub owner : (rules : Rules) (table : List ℕ) (i : ℕ) (what : Owned)
      → let a = owner_in rules table i in Tells (by_result a) (owner_number a what)
  pub split-command : (rules : Rules) (table : List ℕ) (i : ℕ) (shell input : List ℕ)
      → let a = (split_of rules table i shell input).answer in Tells (by_result a) (split_number a)
  pub stdin-length : (rules : Rules) (table : List ℕ) (i : ℕ) → Tells (by_result (entry_in (table_of rules table) i)) (stdin_length rules table i)
  pub normal-form : (d : Dialect) (table text : List ℕ) → let a = (normal_form d table text).answer in Tells (by_result a) (normal_number a)
  pub compile : (d : Dialect) (table records : List ℕ) → let a = (compiled d table records).answer in Tells (by_result a) (normal_number a)
  pub decompile : (records text : List ℕ) → let a = (decompiled records text).answer in Tells (by_result a) (normal_number a)
  -- of bytes that a number of 32 bits can count
  pub record-fault : (records : List ℕ) → length records ≤ refused_from → Tells granted (record_fault records)
  pub queue-init : (rules : Rules) (table room : List ℕ) → let a = (init_table (table_of rules table) room).answer in Tells (by_result a) (tick_number a)
  pub queue-reload : (rules : Rules) (old new room : List ℕ) → let a = (reload_tables rules old new room).answer in Tells (by_result a) (tick_number a)
  pub queue-tick : (rules : Rules) (table room : List ℕ) (minute : ℕ) → let a = (tick_table (table_of rules table) minute room).answer in Tells (by_result a) (tick_number a)
  pub queue-pop : (rules : Rules) (table room : List ℕ) → let a = (pop_table (table_of rules table) room).answer in Tells (by_result a) (pop_number a)
  pub queue-entry : (rules : Rules) (table room : List ℕ) (place : ℕ) → let a = entry_table (table_of rules table) place room in Tells (by_result a) (pop_number a)
  pub firings : (rules : Rules) (table : List ℕ) (i a b : ℕ) (run : List ℕ)
      → let r = (firings_in (table_of rules table) i a b run).answer in TellsFilled r (filled_number r)
  pub merged-firings : (rules : Rules) (table : List ℕ) (a b : ℕ) (minutes entries : List ℕ)
      → let r = (merged_in (table_of rules table) a b minutes entries).answer in TellsFilled r (filled_number r)

-- ---- a refused call changes nothing

-- R40: what is lent stays as it was if the call is refused
abbrev pub Stays : Outcome → List ℕ → List ℕ → Type 0
Stays granted before after = Unit {0}
Stays (refused n) before after = after ≡ before

-- R40, A13: for every call that is lent bytes or numbers to write on
pub record RefusedStays : Type 0 where
  pub date : (minute : ℕ) (run : List ℕ) → Stays (by_result (date_written minute run)) run (date_run minute run)
  pub split-command : (rules : Rules) (table : List ℕ) (i : ℕ) (shell input : List ℕ)
      → let s = split_of rules table i shell input in Stays (by_result s.answer) shell s.shell × Stays (by_result s.answer) input s.input
  pub normal-form : (d : Dialect) (table text : List ℕ) → let f = normal_form d table text in Stays (by_result f.answer) text f.buffer
  pub compile : (d : Dialect) (table records : List ℕ) → let f = compiled d table records in Stays (by_result f.answer) records f.buffer
  pub decompile : (records text : List ℕ) → let f = decompiled records text in Stays (by_result f.answer) text f.buffer
  pub queue-init : (rules : Rules) (table room : List ℕ) → let s = init_table (table_of rules table) room in Stays (by_result s.answer) room s.room
  pub queue-reload : (rules : Rules) (old new room : List ℕ) → let s = reload_tables rules old new room in Stays (by_result s.answer) room s.room
  pub queue-tick : (rules : Rules) (table room : List ℕ) (minute : ℕ) → let s = tick_table (table_of rules table) minute room in Stays (by_result s.answer) room s.room
  pub queue-pop : (rules : Rules) (table room : List ℕ) → let s = pop_table (table_of rules table) room in Stays (by_result s.answer) room s.room
  pub firings : (rules : Rules) (table : List ℕ) (i a b : ℕ) (run : List ℕ)
      → let s = firings_in (table_of rules table) i a b run in Kept s.answer run s.run
  pub merged-firings : (rules : Rules) (table : List ℕ) (a b : ℕ) (minutes entries : List ℕ)
      → let s = merged_in (table_of rules table) a b minutes entries in Kept s.answer minutes s.minutes × Kept s.answer entries s.entries

-- ---- what the claims are made of: each is refused where it doesn't hold

not-told :
    (Tells granted 4294967297 → ⊥)
    × (Tells (refused 14) 14 → ⊥)
    × (Tells (refused 14) 4294967311 → ⊥)
    × (Tells (refused 0) 4294967296 → ⊥)
    × (Tells (refused 256) 4294967552 → ⊥)
    × (TellsFilled (Ok (list.All 7)) 8589934599 → ⊥)
    × (TellsFilled (Ok (list.More 7)) 7 → ⊥)
    × (TellsFilled (Ok (list.More 7)) 12884901888 → ⊥)
not-told = (
  (λ t. omega (arith, t.1)),
  (λ t. omega (arith, t.1)),
  (λ t. omega (arith, t.1)),
  (λ t. omega (arith, t.2.0)),
  (λ t. omega (arith, t.2.1)),
  (λ t. omega (arith, t.1)),
  (λ t. omega (arith, t.1)),
  (λ t. omega (arith, t.2)),
)

not-stays : Stays (refused 14) (1 ∷ 2 ∷ []) (1 ∷ 3 ∷ []) → ⊥
not-stays e = omega (arith, ap (λ (l : List ℕ). get_or l 1 0) e)
