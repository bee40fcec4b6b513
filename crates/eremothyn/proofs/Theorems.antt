-- The headline theorems of C's numbers.
--   known-days: the known days
--   local-days: next firings under an offset, around the ends of the local calendar
--   gap-reached, february-30: the gap exactly reached, and a day that never comes
--   never-reversed: a check in the wrapping dialect never answers R7 (W6)
--   command-placed: the bytes from a command's offset on, as many as its length, are the command
--   date-parts: the six numbers of a date are what the six calls for its parts answer
--   queue-fair: the third demand over the calls that C makes on one buffer; queue-fair-every: where requests come every k announcements; queue-fair-steady:
--     with no hypothesis about calls; queue-fair-ends: up to the calendar's last minute; queue-fair-west: used for a system table in the second dialect, before 1970 locally;
--     due-can-fire: the entries of which they speak are those that are ever due
--   queue-waits-exactly: the entry that a look finds at place p is the answer of request p + 1, and of no earlier one; queue-waits-at-most: so by the N-th;
--     queue-waits-every: and within k * (p + 1) - 1 minutes, where requests come every k announcements; waits-third: used at the last place of three;
--     waits-last: at the last place of 512
--   next-near: a next firing is at most 21,036,960 minutes ahead, whatever the table, the entry and the minute; next-near-first: used from minute 0
--   answers-distinct: EREMOTHYN_IS_REFUSED is true of an answer exactly when the call was refused, and the refusal's number is what is left; granted-told: used
--   refused-stays: and then no byte and no number was changed
--   Extremes uses these two for every call: dates-told, table-told, firing-told, parts-told, written-told, queue-told; lent-stays, queue-stays, lists-stay
--   fair-in-numbers, fair-from-before, waits-in-numbers of DemandNumbers: demand 3 and the waiting times in plain numbers, for any table, entry, minute and calls
--   EachAnswer: what each call answers for each outcome, for any numbers
-- Assumes nothing.
use Rattle.std.specs.Prelude.{Result, Ok}
use mathlib.Core.Path.{◌≡◌, refl, sym, ap, subst, ◌∙◌}
use mathlib.Core.Bool.{false, true≢false}
use mathlib.Core.List.{List}
use Prim.Native.Nat.{ℕ, zero, suc, ◌+◌, ◌-◌, ◌≤◌}
use native.Mathlib.Omega.{arith}
use borrow.Author.Tests.{le-leb}
use lib.Dec.{lit≤}
use Rattle.std.specs.Prelude.{Result, Ok, Err}
use Rattle.refusal.specs.declared.Refusal.{Refusal}
use Rattle.octets.specs.Texts.{text}
use Rattle.octets.specs.Runs.{between}
use Rattle.refusal.specs.Numbers.{number_of}
use Rattle.calendar.specs.Dates.{last_minute}
use Rattle.calendar.specs.Computing.{dating}
use Rattle.schedule.specs.declared.Schedule.{Schedule}
use Rattle.schedule.specs.Next.{next_after}
use Rattle.schedule.specs.Local.{biased_offset, next_after_in}
use Rattle.schedule.proofs.Theorems.{utc-next, known-days-in}
use lib.IntN.{ℤ, pos, negsuc}
use Rattle.line.specs.declared.Rules.{Rules}
use Rattle.crontab.specs.declared.entry.Entry.{Entry}
use Rattle.line.specs.Offsets.{utc}
use Rattle.schedule.specs.Examples.{leap_day, fridays, february30, mondays30, last_day, leap_sundays, evenings, every_minute, schedules}
use Rattle.schedule.proofs.Theorems as firings
use Rattle.field.specs.Computing as field
use Rattle.crontab.specs.declared.table.Table.{Table}
use Rattle.crontab.specs.declared.table.TableFault.{TableFault}
use Rattle.line.specs.declared.time.When.TheVariants.{Timed}
use Rattle.crontab.specs.Limits.{max_table, max_entries}
use Rattle.crontab.specs.Items.{items_of}
use Rattle.crontab.specs.Tables.{table_of, entry_in, command_in, column_in, count_in, line_in, refusal_in}
use Rattle.crontab.specs.Settings.{next_line_in}
use Rattle.crontab.specs.Firings.{next_of, next_answer, next_in, due_in}
use Rattle.crontab.proofs.Theorems.{table-sound, entry-sound, line-told, NextBounded, next-told, next-in-gap}
use Rattle.crontab.proofs.Theorems as tables
use Rattle.normal.specs.NormalForms.{normal_form}
use Rattle.normal.proofs.Theorems.{form-told}
use Rattle.records.specs.Calls.{compiled, decompiled, record_fault}
use Rattle.records.proofs.Theorems.{most_records, compiled-told, decompiled-told, fault-told}
use Rattle.runqueue.specs.Calls.{init_table, tick_table, pop_table, entry_table}
use Rattle.reload.specs.Calls.{reload_tables}
use Rattle.reload.proofs.Theorems.{reload-told, reload-stays}
use Rattle.runqueue.proofs.Theorems.{init-told, tick-told, pop-told, entry-told, init-stays, tick-stays, pop-stays}
use Rattle.firings.specs.declared.Filled.{Filled}
use Rattle.firings.specs.declared.Filled.TheVariants as list
use Rattle.firings.specs.Calls.{firings_in, merged_in}
use Rattle.firings.proofs.Theorems.{firings-few, firings-kept, merged-few, merged-kept}
use Rattle.crontab.specs.Computing.{reading}
use Rattle.command.specs.Computing.{splitting}
use Rattle.eremothyn.specs.Rules.{rules_of}
use Rattle.eremothyn.specs.Answer.{answer_of, is_refused}
use Rattle.eremothyn.specs.Calls.{check_call, next_call}
use Rattle.eremothyn.specs.Lists.{filled_number}
use Rattle.eremothyn.specs.Tables.{check_number}
use Rattle.eremothyn.specs.declared.entries.Place.TheVariants.{CommandOffset, CommandLength}
use Rattle.eremothyn.specs.Entries.{next_number, place_number}
use Rattle.eremothyn.specs.KnownDays.{KnownDays}
use Rattle.eremothyn.specs.Distinct.{by_refusal, Tells, TellsFilled, AnswersDistinct, RefusedStays}
pub use Rattle.eremothyn.proofs.DateRuns.{date-parts}
pub use Rattle.eremothyn.proofs.Demand.{due-can-fire, queue-fair, queue-fair-every, queue-fair-steady, queue-fair-ends, queue-waits-exactly, queue-waits-at-most, queue-waits-every, waits-third, queue-fair-west, waits-last}
use Rattle.eremothyn.proofs.Distinct.{small-granted, part-tells, minute-tells, date-tells, check-tells, place-tells, setting-tells, line-tells, owner-tells, due-tells, next-tells}
use Rattle.eremothyn.proofs.Distinct.{split-tells, stdin-tells, form-tells, tick-tells, pop-tells, list_tells, date-stays, split_stays, form-stays, tick-keeps, pop-keeps}

-- the table's first entry is timed, and its command ends a byte behind its start
abbrev reads : List ℕ → Schedule → ℕ → ℕ → Type 0
reads s times start end = entry_in (table_of (rules_of 0 0) s) 0 ≡ Ok (record { when = Timed times; line = 1; at = 0; start = start; end = end; offset = utc })

-- the next firing of a table's first entry, by its schedule's
firing : (s : List ℕ) (times : Schedule) (start end m : ℕ) → reads s times start end → m ≤ last_minute
    → next_in (table_of (rules_of 0 0) s) 0 m ≡ next_after times m
unfolding next_in next_answer next_of
firing s times start end m e h = rw (e, le-leb m last_minute h, utc-next times m)

-- N1, O5: next firings around the ends of the local calendar, by table bytes
zoned : (s : List ℕ) (e : Entry) (times : Schedule) (m : ℕ) → e.when ≡ Timed times → entry_in (table_of (rules_of 0 0) s) 0 ≡ Ok e → m ≤ last_minute
    → next_in (table_of (rules_of 0 0) s) 0 m ≡ next_after_in times (biased_offset e.offset) m
unfolding next_in next_answer next_of
zoned s e times m w f h = rw (f, le-leb m last_minute h, w)

-- the second line's entry, under an offset
abbrev second : Schedule → ℕ → ℕ → ℤ → Entry
second times start end offset = record { when = Timed times; line = 2; at = 15; start = start; end = end; offset = offset }

abbrev west : List ℕ
west = text "CRON_TZ=-12:00\n0 18 * * * a\n"

abbrev east : List ℕ
east = text "CRON_TZ=+14:00\n* * * * * a\n"

zoned-entries :
    (entry_in (table_of (rules_of 0 0) west) 0 ≡ Ok (second evenings 26 27 (negsuc 719)))
    × (entry_in (table_of (rules_of 0 0) east) 0 ≡ Ok (second every_minute 25 26 (pos 840)))
unfolding schedules reading
zoned-entries = (refl, refl)

pub local-days :
    -- 18:00 at -12:00, after minute 0: 30 hours later in UTC
    (next_number (next_in (table_of (rules_of 0 0) (text "CRON_TZ=-12:00\n0 18 * * * a\n")) 0 0) ≡ 1800)
    -- the last minute of the local calendar at +14:00, and 17 behind it
    × (next_number (next_in (table_of (rules_of 0 0) (text "CRON_TZ=+14:00\n* * * * * a\n")) 0 4223370838) ≡ 4223370839)
    × (next_number (next_in (table_of (rules_of 0 0) (text "CRON_TZ=+14:00\n* * * * * a\n")) 0 4223370839) ≡ 4294967313)
unfolding next_number number_of
local-days = (
  ap next_number (zoned west (second evenings 26 27 (negsuc 719)) evenings 0 refl zoned-entries.0 (lit≤ tt) ∙ known-days-in.3),
  ap next_number (zoned east (second every_minute 25 26 (pos 840)) every_minute 4223370838 refl zoned-entries.1 (lit≤ tt) ∙ known-days-in.6),
  ap next_number (zoned east (second every_minute 25 26 (pos 840)) every_minute 4223370839 refl zoned-entries.1 (lit≤ tt) ∙ known-days-in.7),
)

-- the tables of KnownDays, in its order, and the longest gap's
entries :
    reads (text "0 0 29 2 * a\n") leap_day 11 12
    × reads (text "30 4 1,15 * 5 a\n") fridays 14 15
    × reads (text "0 0 30 2 * a\n") february30 11 12
    × reads (text "0 0 30 2 1 a\n") mondays30 11 12
    × reads (text "0 0 31 12 * a\n") last_day 12 13
    × reads (text "0 0 29 2 */7 a\n") leap_sundays 13 14
unfolding schedules reading
entries = (refl, refl, refl, refl, refl, refl)

pub known-days : KnownDays
unfolding next_number dating field.reading splitting number_of
known-days = (
  refl,
  refl,
  refl,
  refl,
  ap next_number (firing _ leap_day 11 12 _ entries.0 (lit≤ tt) ∙ (firings.known-days).0),
  ap next_number (firing _ fridays 14 15 _ entries.1 (lit≤ tt) ∙ (firings.known-days).1),
  ap next_number (firing _ fridays 14 15 _ entries.1 (lit≤ tt) ∙ (firings.known-days).2),
  ap next_number (firing _ february30 11 12 _ entries.2 (lit≤ tt) ∙ (firings.known-days).3),
  ap next_number (firing _ mondays30 11 12 _ entries.3 (lit≤ tt) ∙ (firings.known-days).4),
  ap next_number (firing _ last_day 12 13 _ entries.4 (lit≤ tt) ∙ (firings.known-days).5),
  refl,
  refl,
  refl,
  refl,
  refl,
  refl,
  refl,
  refl,
)

-- `0 0 29 2 */7` after 62,147,520 (2088-02-29): 83,184,480 (2128-02-29)
pub gap-reached : next_number (next_in (table_of (rules_of 0 0) (text "0 0 29 2 */7 a\n")) 0 62147520) ≡ 83184480
unfolding next_number
gap-reached = ap next_number (firing _ leap_sundays 13 14 _ entries.5 (lit≤ tt) ∙ firings.gap-reached)

-- `0 0 30 2 *` is never due: 16 after every minute of the calendar
pub february-30 : (m : ℕ) → m ≤ last_minute → next_number (next_in (table_of (rules_of 0 0) (text "0 0 30 2 * a\n")) 0 m) ≡ 4294967312
unfolding next_number schedules firings.ever number_of
february-30 m h = ap next_number (firing _ february30 11 12 m entries.2 h ∙ firings.never february30 m refl)

-- "a firing that is found is at most 21,036,960 minutes ahead", before 1970 locally too
pub next-near : (table : List ℕ) (kind dialect entry minute : ℕ)
    → let answer = next_call table kind dialect entry minute in is_refused answer ≡ false → answer ≤ minute + 21036960
unfolding next_number
next-near table kind dialect entry minute = go (next_in t entry minute) refl (next-told (rules_of kind dialect) table entry minute)
  where
    t : Result Table TableFault
    t = table_of (rules_of kind dialect) table

    go : (a : Result ℕ Refusal) → next_in t entry minute ≡ a → NextBounded a → is_refused (next_number a) ≡ false → next_number a ≤ minute + 21036960
    go (Ok n) e h q = next-in-gap t entry minute n e
    go (Err refusal) e h q = absurd (true≢false (sym (next-tells (Err refusal) h).0 ∙ q))

-- used for entry 511 of a system table in the second dialect, from minute 0, which is before 1970 locally to the west
pub next-near-first : (table : List ℕ) → let answer = next_call table 1 1 511 0 in is_refused answer ≡ false → answer ≤ 21036960
next-near-first table granted = next-near table 1 1 511 0 granted

answer-other : (t : Result Table TableFault) → (refusal_in t ≡ 7 → ⊥) → count_in t ≤ max_entries → check_number t ≡ 4294967303 → ⊥
unfolding check_number answer_of
answer-other (Ok x) h few e = omega (arith, few, e)
answer-other (Err f) h few e = h (omega (arith, e))

-- W6: a check in the wrapping dialect never answers 4,294,967,296 + 7
pub never-reversed : (kind dialect : ℕ) (table : List ℕ) → (dialect ≡ 0 → ⊥) → check_number (table_of (rules_of kind dialect) table) ≡ 4294967303 → ⊥
unfolding number_of
never-reversed kind zero table second = absurd (second refl)
never-reversed kind (suc n) table second =
    answer-other (table_of (rules_of kind (suc n)) table)
    (tables.never-reversed (rules_of kind (suc n)) refl table) (table-sound (rules_of kind (suc n)) table).few

-- the part of the table that a command's offset and length say is the entry's raw command
pub command-placed : (rules : Rules) (table : List ℕ) (i : ℕ) (e : Entry)
    → let a = entry_in (table_of rules table) i in
    a ≡ Ok e → between table (place_number a CommandOffset) (place_number a CommandOffset + place_number a CommandLength) ≡ command_in table a
unfolding place_number command_in
command-placed rules table i e found =
    let s = entry-sound rules table i found in
    let p : e.start + (e.end - e.start) ≡ e.end = omega (arith, s.some) in
    rw (found, p)

-- a refusal is 4,294,967,296 plus its number, and EREMOTHYN_IS_REFUSED is true of it and of no other answer
pub answers-distinct : AnswersDistinct
answers-distinct =
    record {
      year-to-weekday = part-tells;
      minute-of-date = minute-tells;
      date = date-tells;
      check = check-tells;
      fault-line = λ rules table. small-granted (line_in (table_of rules table)) (omega (arith, (table-sound rules table).line-few));
      fault-column = λ rules table. small-granted (column_in (table_of rules table)) (omega (arith, (table-sound rules table).column-few));
      due = λ rules table i minute. due-tells (due_in (table_of rules table) i minute);
      next = λ rules table i minute. next-tells (next_in (table_of rules table) i minute) (next-told rules table i minute);
      line-to-command = place-tells;
      setting = setting-tells;
      next-setting = λ rules table line. line-tells (next_line_in (items_of rules table) line) (line-told rules table line);
      owner = owner-tells;
      split-command = split-tells;
      stdin-length = stdin-tells;
      normal-form = λ d table text. form-tells max_table text (normal_form d table text) (omega arith) (form-told d table text);
      compile = λ d table records. form-tells most_records records (compiled d table records) (omega arith) (compiled-told d table records);
      decompile = λ records text. form-tells max_table text (decompiled records text) (omega arith) (decompiled-told records text);
      record-fault = λ records h. small-granted (record_fault records) (omega (arith, fault-told records));
      queue-init =
          λ rules table room. let t = table_of rules table in
          tick-tells (count_in t) (init_table t room).answer (table-sound rules table).few (init-told t room);
      queue-reload =
          λ rules old new room.
          tick-tells (count_in (table_of rules new)) (reload_tables rules old new room).answer (table-sound rules new).few (reload-told rules old new room);
      queue-tick =
          λ rules table room minute. let t = table_of rules table in
          tick-tells (count_in t) (tick_table t minute room).answer (table-sound rules table).few (tick-told t room minute);
      queue-pop =
          λ rules table room. let t = table_of rules table in
          pop-tells (count_in t) (pop_table t room).answer (table-sound rules table).few (pop-told t room);
      queue-entry =
          λ rules table room place. let t = table_of rules table in
          pop-tells (count_in t) (entry_table t place room) (table-sound rules table).few (entry-told t room place);
      firings = λ rules table i a b run. list_tells (firings_in (table_of rules table) i a b run).answer (firings-few rules table i a b run);
      merged-firings = λ rules table a b minutes entries. list_tells (merged_in (table_of rules table) a b minutes entries).answer (merged-few rules table a b minutes entries);
    }

-- used: the macro is false of a good table's check, and of a list's number, whether all is listed or more remain
pub granted-told :
    ((table : List ℕ) → refusal_in (table_of (rules_of 1 1) table) ≡ 0 → is_refused (check_call table 1 1) ≡ false)
    × ((table : List ℕ) (i a b n : ℕ) (run : List ℕ)
    → (firings_in (table_of (rules_of 1 1) table) i a b run).answer ≡ Ok (list.All n) → is_refused (filled_number (Ok (list.All n))) ≡ false)
    × ((table : List ℕ) (a b n : ℕ) (minutes entries : List ℕ)
    → (merged_in (table_of (rules_of 1 1) table) a b minutes entries).answer ≡ Ok (list.More n) → is_refused (filled_number (Ok (list.More n))) ≡ false)
granted-told = (
  (λ table good. (subst (λ (n : ℕ). Tells (by_refusal n) (check_call table 1 1)) good (answers-distinct.check (rules_of 1 1) table)).0),
  (λ table i a b n run e. (subst (λ (x : Result Filled Refusal). TellsFilled x (filled_number x)) e (answers-distinct.firings (rules_of 1 1) table i a b run)).0),
  (λ table a b n minutes entries e.
      (subst (λ (x : Result Filled Refusal). TellsFilled x (filled_number x)) e (answers-distinct.merged-firings (rules_of 1 1) table a b minutes entries)).0),
)

-- a refused call changes no byte and no number
pub refused-stays : RefusedStays
refused-stays =
    record {
      date = date-stays;
      split-command = split_stays;
      normal-form = λ d table text. form-stays max_table text (normal_form d table text) (form-told d table text);
      compile = λ d table records. form-stays most_records records (compiled d table records) (compiled-told d table records);
      decompile = λ records text. form-stays max_table text (decompiled records text) (decompiled-told records text);
      queue-init = λ rules table room. let s = init_table (table_of rules table) room in tick-keeps s.answer room s.room (init-stays (table_of rules table) room);
      queue-reload =
          λ rules old new room.
          let s = reload_tables rules old new room in
          tick-keeps s.answer room s.room (reload-stays rules old new room);
      queue-tick =
          λ rules table room minute.
          let s = tick_table (table_of rules table) minute room in
          tick-keeps s.answer room s.room (λ n. tick-stays (table_of rules table) room n minute);
      queue-pop = λ rules table room. let s = pop_table (table_of rules table) room in pop-keeps s.answer room s.room (pop-stays (table_of rules table) room);
      firings = firings-kept;
      merged-firings = merged-kept;
    }
