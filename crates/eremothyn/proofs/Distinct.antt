-- Each of C's numbers tells a refusal from an answer: how large the answers are is what the lower crates' theorems say. And what is
-- refused changes nothing.
-- Assumes nothing.
use Rattle.std.specs.Prelude.{Result, Ok, Err, Option, Some, None}
use mathlib.Core.Path.{◌≡◌, refl}
use mathlib.Core.Bool.{Bool, true, false, cond, ◌&&◌}
use Prim.Native.Nat.{ℕ, zero, suc, ◌+◌, ◌-◌, ◌%◌, ◌≤◌, ◌<◌}
use mathlib.Core.List.{List}
use native.Mathlib.Omega.{arith}
use lib.Dec.{leb}
use lib.ListN.{length, drop, length-drop}
use lib.Seq.{length-take-le}
use borrow.Author.Tests.{leb-true, lt-ltb, le-ltb}
use Rattle.std.specs.Prelude.{Result, Ok, Err, IsOk, IfOk}
use Rattle.refusal.specs.declared.Refusal.{Refusal}
use Rattle.refusal.specs.declared.Refusal.TheVariants.{NotOnCalendar, TooShort}
use Rattle.refusal.specs.Numbers.{number_of, IsRefusal}
use Rattle.refusal.proofs.Numbers.{number-small}
use Rattle.calendar.specs.declared.Date.{Date}
use Rattle.octets.specs.Runs.{between}
use Rattle.octets.specs.OverFront.{over_front}
use Rattle.calendar.specs.Dates.{first_year, last_year, last_minute, date_at, date_of, exists, minute_at, minute_of}
use Rattle.calendar.proofs.Theorems.{parts_within, date-minute-date}
use Rattle.line.specs.declared.Rules.{Rules}
use Rattle.crontab.specs.declared.table.Table.{Table}
use Rattle.crontab.specs.declared.table.TableFault.{TableFault}
use Rattle.crontab.specs.declared.setting.Setting.{Setting}
use Rattle.crontab.specs.declared.entry.Entry.{Entry}
use Rattle.crontab.specs.Limits.{max_table, max_entries}
use Rattle.crontab.specs.Items.{items_of}
use Rattle.crontab.specs.Tables.{table_of, entry_in, count_in, refusal_in}
use Rattle.crontab.specs.Settings.{setting_in}
use Rattle.crontab.proofs.Sound.{Sound}
use Rattle.crontab.specs.Owners.{owner_in}
use Rattle.eremothyn.specs.declared.owners.Owned.{Owned}
use Rattle.eremothyn.specs.declared.owners.Owned.TheVariants.{UserOffset, UserLength, GroupOffset, GroupLength, ClassOffset, ClassLength}
use Rattle.eremothyn.specs.Owners.{owned_in, owner_number}
use Rattle.crontab.proofs.Theorems.{OwnerInside, owner-inside, owner-short, EntryBounded, LineBounded, NextBounded, table-sound, entry-told, entry-on-line, setting-inside, setting-short, SettingInside}
use Rattle.command.specs.Parts.{shell_line, input_of, text_of, input_length, lengths_of}
use Rattle.command.specs.Buffers.{Split, have_room, split_step}
use Rattle.command.proofs.Theorems.{split-length}
use Rattle.normal.specs.NormalForms.{NormalForm}
use Rattle.normal.proofs.Theorems.{Told, FormBounded}
use Rattle.std.specs.Prelude.{Option, Some, None, Result, Ok, Err}
use Rattle.fifo.proofs.Theorems.{TickedWithin, PoppedWithin}
use Rattle.firings.specs.declared.Filled.{Filled}
use Rattle.firings.specs.declared.Filled.TheVariants as list
use Rattle.firings.specs.Rising.{Few}
use Rattle.eremothyn.specs.declared.dates.DatePart.{DatePart}
use Rattle.eremothyn.specs.declared.dates.DatePart.TheVariants.{Year, Month, Day, Hour, Minute, Weekday}
use Rattle.eremothyn.specs.declared.settings.Shown.{Shown}
use Rattle.eremothyn.specs.declared.settings.Shown.TheVariants.{NameOffset, NameLength, ValueOffset, ValueLength}
use Rattle.eremothyn.specs.Answer.{refused_from, more_from, answer_of, result_number, is_refused}
use Rattle.eremothyn.specs.Dates.{part_in, date_part, date_minute, fitted, date_written, date_answer, written_run, date_run}
use Rattle.eremothyn.specs.Tables.{check_number}
use Rattle.eremothyn.specs.declared.entries.Place.{Place}
use Rattle.eremothyn.specs.declared.entries.Place.TheVariants.{Line, CommandOffset, CommandLength}
use Rattle.eremothyn.specs.Entries.{due_number, next_number, place_in, place_number}
use Rattle.eremothyn.specs.Settings.{shown_in, setting_number, line_number}
use Rattle.eremothyn.specs.Commands.{split_number, input_number, split_in, split_of, stdin_in, stdin_length}
use Rattle.eremothyn.specs.NormalForms.{normal_number}
use Rattle.eremothyn.specs.Queue.{tick_number, pop_number}
use Rattle.eremothyn.specs.Lists.{filled_number}
use Rattle.eremothyn.specs.Distinct.{granted, TellsRefused, Tells, TellsFilled, by_refusal, by_result, Stays}
use Rattle.line.specs.declared.user.Owner.{Owner}

-- ---- the macro

-- of an answer that isn't above 4,294,967,296, of one where more remain, and of a refusal
pub small-granted : (number : ℕ) → number ≤ refused_from → Tells granted number
unfolding is_refused
small-granted number h = (le-ltb refused_from (number % more_from) (omega arith), h)

more-granted : (n : ℕ) → n < refused_from → is_refused (more_from + n) ≡ false
unfolding is_refused
more-granted n h =
    le-ltb refused_from ((more_from + n) % more_from) (omega arith)

refused-told : (n : ℕ) → IsRefusal n → TellsRefused n (refused_from + n)
unfolding is_refused
refused-told n h = (lt-ltb refused_from ((refused_from + n) % more_from) (omega (arith, h.0, h.1)), refl, h)

refusal-told : (refusal : Refusal) → TellsRefused (number_of refusal) (refused_from + number_of refusal)
refusal-told refusal = refused-told (number_of refusal) (number-small refusal)

-- a refusal by its number, which isn't 0
number-told : (n : ℕ) → IsRefusal n → Tells (by_refusal n) (refused_from + n)
number-told zero h = absurd (omega (arith, h.0))
number-told (suc n) h = refused-told (suc n) h

-- ---- dates

part_small : (m : ℕ) (part : DatePart) → m ≤ last_minute → part_in (date_at m) part ≤ refused_from
part_small m Year h = omega (arith, (parts_within m h).0)
part_small m Month h = omega (arith, (parts_within m h).1)
part_small m Day h = omega (arith, (parts_within m h).2)
part_small m Hour h = omega (arith, (parts_within m h).3)
part_small m Minute h = omega (arith, (parts_within m h).4)
part_small m Weekday h = omega (arith, (parts_within m h).5)

pub part-tells : (minute : ℕ) (part : DatePart) → Tells (by_result (date_of minute)) (date_part minute part)
unfolding date_part date_of result_number
part-tells minute part = go (leb minute last_minute) refl
  where
    go : (b : Bool) → leb minute last_minute ≡ b
        → let a = cond {A = Result Date Refusal} b (Ok (date_at minute)) (Err NotOnCalendar) in
        Tells (by_result a) (result_number (λ d. part_in d part) a)
    go true e = small-granted (part_in (date_at minute) part) (part_small minute part (leb-true minute last_minute e))
    go false e = refusal-told NotOnCalendar

pub minute-tells : (year month day hour minute : ℕ)
    → Tells (by_result (minute_of year month day hour minute)) (date_minute year month day hour minute)
unfolding date_minute minute_of result_number
minute-tells year month day hour minute = go (exists year month day hour minute && leb first_year year && leb year last_year) refl
  where
    m : ℕ
    m = minute_at year month day hour minute

    go : (b : Bool) → (exists year month day hour minute && leb first_year year && leb year last_year) ≡ b
        → let a = cond {A = Result ℕ Refusal} b (Ok m) (Err NotOnCalendar) in
        Tells (by_result a) (result_number (λ m. m) a)
    go true e = small-granted m (omega (arith, (date-minute-date year month day hour minute m (rw e)).0))
    go false e = refusal-told NotOnCalendar

pub date-tells : (minute : ℕ) (run : List ℕ) → Tells (by_result (date_written minute run)) (date_answer minute run)
unfolding date_answer date_written fitted date_of result_number
date-tells minute run = go (leb minute last_minute)
  where
    room : (b : Bool) → let a = cond {A = Result Date Refusal} b (Ok (date_at minute)) (Err TooShort) in Tells (by_result a) (result_number (λ d. 6) a)
    room true = small-granted 6 (omega arith)
    room false = refusal-told TooShort

    go : (on : Bool)
        → let a = fitted (cond {A = Result Date Refusal} on (Ok (date_at minute)) (Err NotOnCalendar)) run in
        Tells (by_result a) (result_number (λ d. 6) a)
    go true = room (leb 6 (length run))
    go false = refusal-told NotOnCalendar

-- ---- tables and settings

pub check-tells : (rules : Rules) (table : List ℕ) → Tells (by_refusal (refusal_in (table_of rules table))) (check_number (table_of rules table))
unfolding check_number answer_of
check-tells rules table = go (table_of rules table) (table-sound rules table).few
  where
    go : (t : Result Table TableFault) → count_in t ≤ max_entries → Tells (by_refusal (refusal_in t)) (check_number t)
    go (Ok t) few = small-granted t.count (omega arith)
    go (Err f) few = number-told (number_of f.refusal) (number-small f.refusal)

pub setting-tells : (rules : Rules) (table : List ℕ) (line : ℕ) (what : Shown)
    → let a = setting_in (items_of rules table) line in Tells (by_result a) (setting_number a what)
unfolding setting_number
setting-tells rules table line what =
    go (setting_in (items_of rules table) line) (setting-inside rules table line) (setting-short rules table line)
  where
    small : (what : Shown) (x : Setting) → SettingInside (length table) x → length table ≤ max_table → shown_in x what ≤ refused_from
    small NameOffset x i h = omega (arith, i.name.order, i.name.within)
    small NameLength x i h = omega (arith, i.name.order, i.name.within)
    small ValueOffset x i h = omega (arith, i.value.order, i.value.within)
    small ValueLength x i h = omega (arith, i.value.order, i.value.within)

    go : (a : Result Setting Refusal) → IfOk a (SettingInside (length table)) → (IsOk a → length table ≤ max_table)
        → Tells (by_result a) (setting_number a what)
    go (Ok x) i h = small-granted (shown_in x what) (small what x i (h refl))
    go (Err refusal) i h = refusal-told refusal

pub line-tells : (a : Result ℕ Refusal) → LineBounded a → Tells (by_result a) (line_number a)
unfolding line_number
line-tells (Ok k) h = small-granted k (omega arith)
line-tells (Err refusal) h = refusal-told refusal

-- ---- owners

pub owner-tells : (rules : Rules) (table : List ℕ) (i : ℕ) (what : Owned)
    → let a = owner_in rules table i in Tells (by_result a) (owner_number a what)
unfolding owner_number
owner-tells rules table i what = go (owner_in rules table i) (owner-inside rules table i) (owner-short rules table i)
  where
    small : (what : Owned) (o : Owner) → OwnerInside (length table) o → length table ≤ max_table → owned_in o what ≤ refused_from
    small UserOffset o i h = omega (arith, i.user.order, i.user.within)
    small UserLength o i h = omega (arith, i.user.order, i.user.within)
    small GroupOffset o i h = omega (arith, i.group.order, i.group.within)
    small GroupLength o i h = omega (arith, i.group.order, i.group.within)
    small ClassOffset o i h = omega (arith, i.class.order, i.class.within)
    small ClassLength o i h = omega (arith, i.class.order, i.class.within)

    go : (a : Result Owner Refusal) → IfOk a (OwnerInside (length table)) → (IsOk a → length table ≤ max_table)
        → Tells (by_result a) (owner_number a what)
    go (Ok o) i h = small-granted (owned_in o what) (small what o i (h refl))
    go (Err refusal) i h = refusal-told refusal

-- ---- entries

pub due-tells : (a : Result Bool Refusal) → Tells (by_result a) (due_number a)
unfolding due_number
due-tells (Ok true) = small-granted 1 (omega arith)
due-tells (Ok false) = small-granted 0 (omega arith)
due-tells (Err refusal) = refusal-told refusal

pub next-tells : (a : Result ℕ Refusal) → NextBounded a → Tells (by_result a) (next_number a)
unfolding next_number
next-tells (Ok m) h = small-granted m (omega arith)
next-tells (Err refusal) h = refusal-told refusal

pub place-tells : (rules : Rules) (table : List ℕ) (i : ℕ) (what : Place)
    → let a = entry_in (table_of rules table) i in Tells (by_result a) (place_number a what)
unfolding place_number
place-tells rules table i what = go (entry_in (table_of rules table) i) (entry-told rules table i) (λ e. entry-on-line rules table i)
  where
    small : (what : Place) (e : Entry) → Sound (length table) e → length table ≤ max_table → e.line ≤ length table + 1 → place_in e what ≤ refused_from
    small Line e s h l = omega arith
    small CommandOffset e s h l = omega (arith, s.some, s.within)
    small CommandLength e s h l = omega (arith, s.some, s.within)

    go : (a : Result Entry Refusal) → EntryBounded (length table) a → ((e : Entry) → a ≡ Ok e → (1 ≤ e.line) × (e.line ≤ length table + 1))
        → Tells (by_result a) (place_number a what)
    go (Ok e) (s, h) on = small-granted (place_in e what) (small what e s h (on e refl).1)
    go (Err refusal) h on = refusal-told refusal

-- ---- commands

command-length : (table : List ℕ) (e : Entry) → Sound (length table) e → length (between table e.start e.end) ≤ length table
unfolding between
command-length table e s =
    let a = s.some in
    let b = s.within in
    omega (arith, length-take-le (e.end - e.start) (drop e.start table) (omega (arith, length-drop e.start table)))

step-tells : (c shell input : List ℕ) → length c ≤ max_table → let a = (split_step c shell input).answer in Tells (by_result a) (split_number a)
unfolding split_step split_number lengths_of
step-tells c shell input h = go (have_room c shell input)
  where
    go : (b : Bool)
        → let r : Split =
        cond b
        (record {
          answer = Ok (lengths_of c);
          shell = over_front (shell_line c) shell;
          input = over_front (text_of (input_of c)) input;
        })
        (record { answer = Err TooShort; shell = shell; input = input })
        in
        Tells (by_result r.answer) (split_number r.answer)
    go true = small-granted (length (shell_line c)) (omega (arith, split-length c))
    go false = refusal-told TooShort

pub split-tells : (rules : Rules) (table : List ℕ) (i : ℕ) (shell input : List ℕ)
    → let a = (split_of rules table i shell input).answer in Tells (by_result a) (split_number a)
unfolding split_of split_in split_number
split-tells rules table i shell input = go (entry_in (table_of rules table) i) (entry-told rules table i)
  where
    go : (x : Result Entry Refusal) → EntryBounded (length table) x → let a = (split_in table x shell input).answer in Tells (by_result a) (split_number a)
    go (Ok e) (s, h) = step-tells (between table e.start e.end) shell input (omega (arith, command-length table e s))
    go (Err refusal) h = refusal-told refusal

input-small : (n : ℕ) (x : Option (List ℕ)) → length (text_of x) ≤ n → n ≤ max_table → input_number (input_length x) ≤ refused_from
unfolding input_number input_length text_of
input-small n None h k = omega arith
input-small n (Some t) h k = omega arith

pub stdin-tells : (rules : Rules) (table : List ℕ) (i : ℕ) → Tells (by_result (entry_in (table_of rules table) i)) (stdin_length rules table i)
unfolding stdin_length stdin_in
stdin-tells rules table i = go (entry_in (table_of rules table) i) (entry-told rules table i)
  where
    go : (x : Result Entry Refusal) → EntryBounded (length table) x → Tells (by_result x) (stdin_in table x)
    go (Ok e) (s, h) =
        let c = between table e.start e.end in
        small-granted _ (input-small (length table) (input_of c) (omega (arith, split-length c, command-length table e s)) h)
    go (Err refusal) h = refusal-told refusal

-- ---- normal forms

-- by what a writer's answer tells
pub form-tells : (most : ℕ) (before : List ℕ) (f : NormalForm) → most ≤ refused_from → FormBounded most before f → Tells (by_result f.answer) (normal_number f.answer)
unfolding normal_number
form-tells most before f small = go f.answer
  where
    go : (a : Result ℕ Refusal) → Told most before a f.buffer → Tells (by_result a) (normal_number a)
    go (Ok size) h = small-granted size (omega (arith, h.0))
    go (Err refusal) h = refusal-told refusal

-- ---- the line of waiting jobs

pub tick-tells : (n : ℕ) (a : Result ℕ Refusal) → n ≤ max_entries → TickedWithin n a → Tells (by_result a) (tick_number a)
unfolding tick_number
tick-tells n (Ok k) few h = small-granted k (omega arith)
tick-tells n (Err refusal) few h = refusal-told refusal

pub pop-tells : (n : ℕ) (a : Result (Option ℕ) Refusal) → n ≤ max_entries → PoppedWithin n a → Tells (by_result a) (pop_number a)
unfolding pop_number
pop-tells n (Ok (Some e)) few h = small-granted e (omega arith)
pop-tells n (Ok None) few h = small-granted refused_from (omega arith)
pop-tells n (Err refusal) few h = refusal-told refusal

-- ---- lists

pub list_tells : (r : Result Filled Refusal) → Few r → TellsFilled r (filled_number r)
unfolding filled_number
list_tells (Ok (list.All n)) h = ((small-granted n (omega arith)).0, omega arith)
list_tells (Ok (list.More n)) h = (more-granted n (omega arith), omega arith, omega arith)
list_tells (Err refusal) h = refusal-told refusal

-- ---- what is refused changes nothing

step_stays : (c shell input : List ℕ)
    → let s = split_step c shell input in Stays (by_result s.answer) shell s.shell × Stays (by_result s.answer) input s.input
unfolding split_step
step_stays c shell input = go (have_room c shell input)
  where
    go : (b : Bool)
        → let s : Split =
        cond b
        (record {
          answer = Ok (lengths_of c);
          shell = over_front (shell_line c) shell;
          input = over_front (text_of (input_of c)) input;
        })
        (record { answer = Err TooShort; shell = shell; input = input })
        in
        Stays (by_result s.answer) shell s.shell × Stays (by_result s.answer) input s.input
    go true = (tt, tt)
    go false = (refl, refl)

pub split_stays : (rules : Rules) (table : List ℕ) (i : ℕ) (shell input : List ℕ)
    → let s = split_of rules table i shell input in Stays (by_result s.answer) shell s.shell × Stays (by_result s.answer) input s.input
unfolding split_of split_in
split_stays rules table i shell input = go (entry_in (table_of rules table) i)
  where
    go : (x : Result Entry Refusal)
        → let s = split_in table x shell input in Stays (by_result s.answer) shell s.shell × Stays (by_result s.answer) input s.input
    go (Ok e) = step_stays (between table e.start e.end) shell input
    go (Err refusal) = (refl, refl)

pub date-stays : (minute : ℕ) (run : List ℕ) → Stays (by_result (date_written minute run)) run (date_run minute run)
unfolding date_run written_run
date-stays minute run = go (date_written minute run)
  where
    go : (a : Result Date Refusal) → Stays (by_result a) run (written_run a run)
    go (Ok d) = tt
    go (Err n) = refl

pub form-stays : (most : ℕ) (before : List ℕ) (f : NormalForm) → FormBounded most before f → Stays (by_result f.answer) before f.buffer
form-stays most before f = go f.answer
  where
    go : (a : Result ℕ Refusal) → Told most before a f.buffer → Stays (by_result a) before f.buffer
    go (Ok size) h = tt
    go (Err refusal) h = h.1

pub tick-keeps : (a : Result ℕ Refusal) (before after : List ℕ) → ((n : Refusal) → a ≡ Err n → after ≡ before) → Stays (by_result a) before after
tick-keeps (Ok k) before after h = tt
tick-keeps (Err n) before after h = h n refl

pub pop-keeps : (a : Result (Option ℕ) Refusal) (before after : List ℕ) → ((n : Refusal) → a ≡ Err n → after ≡ before) → Stays (by_result a) before after
pop-keeps (Ok (Some e)) before after h = tt
pop-keeps (Ok None) before after h = tt
pop-keeps (Err n) before after h = h n refl
