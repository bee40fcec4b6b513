-- What each call answers for each outcome, in C's numbers, for any table, rules, entry, minute and run: a value is itself, a refusal 4,294,967,296 more than its
-- number, a list of which more remain 8,589,934,592 more than its count. No width of a number and no entry, line or minute is left out.
-- Assumes nothing.
use mathlib.Core.Path.{◌≡◌, refl, ap}
use mathlib.Core.List.{List, [], ◌∷◌}
use Prim.Native.Nat.{ℕ, suc, ◌+◌, ◌-◌}
use native.Mathlib.Omega.{arith}
use Rattle.std.specs.Prelude.{Ok, Err, true, false, Result, IsOk, Option, Some, None}
use Rattle.refusal.specs.declared.Refusal.{Refusal}
use Rattle.refusal.specs.Numbers.{number_of}
use Rattle.refusal.proofs.Numbers.{number-small}
use Rattle.octets.specs.OverFront.{over_front}
use Rattle.octets.specs.Runs.{between}
use Rattle.command.specs.Buffers.{Split, split_step}
use Rattle.command.specs.Parts.{input_of, input_length}
use Rattle.line.specs.declared.Rules.{Rules}
use Rattle.crontab.specs.declared.entry.Entry.{Entry}
use Rattle.crontab.specs.declared.table.Table.{Table}
use Rattle.crontab.specs.Tables.{table_of, entry_in, count_in, refusal_in}
use Rattle.crontab.specs.declared.table.TableFault.{TableFault}
use Rattle.crontab.specs.Firings.{due_in, next_in}
use Rattle.crontab.specs.Items.{items_of}
use Rattle.crontab.specs.Owners.{owner_in}
use Rattle.crontab.specs.Settings.{setting_in, next_line_in}
use Rattle.firings.specs.declared.Filled.TheVariants as list
use Rattle.firings.specs.Calls.{firings_in, merged_in}
use Rattle.normal.specs.NormalForms.{normal_form}
use Rattle.records.specs.Calls.{compiled, decompiled}
use Rattle.reload.specs.Calls.{reload_tables}
use Rattle.runqueue.specs.Calls.{init_table, tick_table, pop_table, entry_table}
use Rattle.eremothyn.specs.Answer.{answer_of}
use Rattle.eremothyn.specs.Rules.{dialect_of, rules_of}
use Rattle.eremothyn.specs.Tables.{check_number}
use Rattle.eremothyn.specs.Entries.{due_number, next_number, place_number}
use Rattle.eremothyn.specs.Owners.{owner_number}
use Rattle.eremothyn.specs.Settings.{setting_number, line_number}
use Rattle.eremothyn.specs.Lists.{filled_number}
use Rattle.eremothyn.specs.Commands.{split_number, input_number, split_in, split_of, stdin_in, stdin_length}
use Rattle.eremothyn.specs.Queue.{tick_number, pop_number}
use Rattle.eremothyn.specs.NormalForms.{normal_number}
use Rattle.eremothyn.specs.Calls.{check_call, due_call, next_call, entry_line_call, command_offset_call, command_length_call, firings_call, merged_firings_call}
use Rattle.eremothyn.specs.Calls.{split_command_call, split_command_shell, split_command_input, stdin_length_call}
use Rattle.eremothyn.specs.Calls.{user_offset_call, user_length_call, group_offset_call, group_length_call, class_offset_call, class_length_call}
use Rattle.eremothyn.specs.Calls.{setting_name_offset_call, setting_name_length_call, setting_value_offset_call, setting_value_length_call, next_setting_call}
use Rattle.eremothyn.specs.Calls.{normal_form_call, compile_call, decompile_call, queue_init_call, queue_tick_call, queue_pop_call, queue_entry_call, queue_reload_call}
use Rattle.eremothyn.specs.declared.dates.DatePart.TheVariants.{Year, Month, Day, Hour, Minute, Weekday}
use Rattle.eremothyn.specs.Dates.{date_part, date_written, date_run}
use Rattle.eremothyn.proofs.Theorems.{date-parts}
use Rattle.line.specs.declared.user.Owner.{Owner}
use Rattle.crontab.specs.declared.setting.Setting.{Setting}

-- ---- of any table, read by any rules, and any entry, line, minute, run and buffer

module _ (s : List ℕ) (kind dialect : ℕ) where
  abbrev rules : Rules
  rules = rules_of kind dialect

  abbrev t : Result Table TableFault
  t = table_of rules s

  pub check-answers : (refusal_in t ≡ 0 → check_call s kind dialect ≡ count_in t) × ((n : ℕ) → refusal_in t ≡ suc n → check_call s kind dialect ≡ 4294967296 + suc n)
  unfolding check_number answer_of
  check-answers = go t
    where
      go : (u : Result Table TableFault) → (refusal_in u ≡ 0 → check_number u ≡ count_in u) × ((n : ℕ) → refusal_in u ≡ suc n → check_number u ≡ 4294967296 + suc n)
      go (Ok x) = ((λ e. refl), (λ n e. absurd (omega (arith, e))))
      go (Err f) = ((λ e. absurd (let small = number-small f.refusal in omega (arith, small.0, e))), (λ n e. rw e))

  module _ (i : ℕ) where
    pub due-answers : (m : ℕ)
        → (due_in t i m ≡ Ok true → due_call s kind dialect i m ≡ 1)
        × (due_in t i m ≡ Ok false → due_call s kind dialect i m ≡ 0)
        × ((r : Refusal) → due_in t i m ≡ Err r → due_call s kind dialect i m ≡ 4294967296 + number_of r)
    unfolding due_number
    due-answers m = ((λ e. rw e), (λ e. rw e), (λ n e. rw e))

    pub next-answers : (m n : ℕ) (r : Refusal)
        → (next_in t i m ≡ Ok n → next_call s kind dialect i m ≡ n) × (next_in t i m ≡ Err r → next_call s kind dialect i m ≡ 4294967296 + number_of r)
    unfolding next_number
    next-answers m n r = ((λ e. rw e), (λ e. rw e))

    pub entry-answers : (x : Entry) → entry_in t i ≡ Ok x
        → (entry_line_call s kind dialect i ≡ x.line) × (command_offset_call s kind dialect i ≡ x.start) × (command_length_call s kind dialect i ≡ x.end - x.start)
    unfolding place_number
    entry-answers x e = (rw e, rw e, rw e)

    pub entry-refused : (r : Refusal) → entry_in t i ≡ Err r
        → (entry_line_call s kind dialect i ≡ 4294967296 + number_of r) × (command_offset_call s kind dialect i ≡ 4294967296 + number_of r) × (command_length_call s kind dialect i ≡ 4294967296 + number_of r)
        × (stdin_length_call s kind dialect i ≡ 4294967296 + number_of r)
    unfolding place_number stdin_length stdin_in
    entry-refused r e = (rw e, rw e, rw e, rw e)

    -- the user column
    pub owner-answers : {o : Owner} → owner_in rules s i ≡ Ok o
        → (user_offset_call s kind dialect i ≡ o.user.start) × (user_length_call s kind dialect i ≡ o.user.end - o.user.start)
        × (group_offset_call s kind dialect i ≡ o.group.start) × (group_length_call s kind dialect i ≡ o.group.end - o.group.start)
        × (class_offset_call s kind dialect i ≡ o.class.start) × (class_length_call s kind dialect i ≡ o.class.end - o.class.start)
    unfolding owner_number
    owner-answers e = (rw e, rw e, rw e, rw e, rw e, rw e)

    pub owner-refused : (r : Refusal) → owner_in rules s i ≡ Err r
        → (user_offset_call s kind dialect i ≡ 4294967296 + number_of r) × (user_length_call s kind dialect i ≡ 4294967296 + number_of r)
        × (group_offset_call s kind dialect i ≡ 4294967296 + number_of r) × (group_length_call s kind dialect i ≡ 4294967296 + number_of r)
        × (class_offset_call s kind dialect i ≡ 4294967296 + number_of r) × (class_length_call s kind dialect i ≡ 4294967296 + number_of r)
    unfolding owner_number
    owner-refused r e = (rw e, rw e, rw e, rw e, rw e, rw e)

    -- the setting on line i, and the next line from i on with one
    pub setting-answers : {x : Setting} → setting_in (items_of rules s) i ≡ Ok x
        → (setting_name_offset_call s kind dialect i ≡ x.name.start) × (setting_name_length_call s kind dialect i ≡ x.name.end - x.name.start)
        × (setting_value_offset_call s kind dialect i ≡ x.value.start) × (setting_value_length_call s kind dialect i ≡ x.value.end - x.value.start)
    unfolding setting_number
    setting-answers e = (rw e, rw e, rw e, rw e)

    pub setting-refused : (r : Refusal) → setting_in (items_of rules s) i ≡ Err r
        → (setting_name_offset_call s kind dialect i ≡ 4294967296 + number_of r) × (setting_name_length_call s kind dialect i ≡ 4294967296 + number_of r)
        × (setting_value_offset_call s kind dialect i ≡ 4294967296 + number_of r) × (setting_value_length_call s kind dialect i ≡ 4294967296 + number_of r)
    unfolding setting_number
    setting-refused r e = (rw e, rw e, rw e, rw e)

    pub line-answers : (n : ℕ) (r : Refusal)
        → (next_line_in (items_of rules s) i ≡ Ok n → next_setting_call s kind dialect i ≡ n)
        × (next_line_in (items_of rules s) i ≡ Err r → next_setting_call s kind dialect i ≡ 4294967296 + number_of r)
    unfolding line_number
    line-answers n r = ((λ e. rw e), (λ e. rw e))

    -- a list, of an entry and of the table
    pub firings-answers : (a b n : ℕ) (r : Refusal) (run : List ℕ)
        → ((firings_in t i a b run).answer ≡ Ok (list.All n) → firings_call s kind dialect i a b run ≡ n)
        × ((firings_in t i a b run).answer ≡ Ok (list.More n) → firings_call s kind dialect i a b run ≡ 8589934592 + n)
        × ((firings_in t i a b run).answer ≡ Err r → firings_call s kind dialect i a b run ≡ 4294967296 + number_of r)
    unfolding filled_number
    firings-answers a b n r run = ((λ e. rw e), (λ e. rw e), (λ e. rw e))

    -- the command in two parts, by the bytes of the table from the command's start to its end
    pub split-answers : (y : Entry) (shell input : List ℕ) → entry_in t i ≡ Ok y
        → let parts = split_step (between s y.start y.end) shell input in
        (split_command_call s kind dialect i shell input ≡ split_number parts.answer)
        × (split_command_shell s kind dialect i shell input ≡ parts.shell) × (split_command_input s kind dialect i shell input ≡ parts.input)
        × (stdin_length_call s kind dialect i ≡ input_number (input_length (input_of (between s y.start y.end))))
    unfolding split_of split_in stdin_length stdin_in
    split-answers y shell input e =
        let q : split_of rules s i shell input ≡ split_step (between s y.start y.end) shell input = rw e in
        (ap (λ (r : Split). split_number r.answer) q, ap (λ (r : Split). r.shell) q, ap (λ (r : Split). r.input) q, rw e)

    pub split-refused : (r : Refusal) (shell input : List ℕ) → entry_in t i ≡ Err r
        → (split_command_call s kind dialect i shell input ≡ 4294967296 + number_of r)
        × (split_command_shell s kind dialect i shell input ≡ shell) × (split_command_input s kind dialect i shell input ≡ input)
    unfolding split_of split_in split_number
    split-refused r shell input e =
        let q : split_of rules s i shell input ≡ record { answer = Err r; shell = shell; input = input } = rw e in
        (ap (λ (r : Split). split_number r.answer) q, ap (λ (r : Split). r.shell) q, ap (λ (r : Split). r.input) q)

  pub merged-answers : (a b n : ℕ) (r : Refusal) (minutes entries : List ℕ)
      → ((merged_in t a b minutes entries).answer ≡ Ok (list.All n) → merged_firings_call s kind dialect a b minutes entries ≡ n)
      × ((merged_in t a b minutes entries).answer ≡ Ok (list.More n) → merged_firings_call s kind dialect a b minutes entries ≡ 8589934592 + n)
      × ((merged_in t a b minutes entries).answer ≡ Err r → merged_firings_call s kind dialect a b minutes entries ≡ 4294967296 + number_of r)
  unfolding filled_number
  merged-answers a b n r minutes entries = ((λ e. rw e), (λ e. rw e), (λ e. rw e))

  -- the queue
  module _ (n : ℕ) (r : Refusal) (room : List ℕ) where
    pub init-answers : ((init_table t room).answer ≡ Ok n → queue_init_call s kind dialect room ≡ n)
        × ((init_table t room).answer ≡ Err r → queue_init_call s kind dialect room ≡ 4294967296 + number_of r)
    unfolding tick_number
    init-answers = ((λ e. rw e), (λ e. rw e))

    pub tick-answers : (m : ℕ) → ((tick_table t m room).answer ≡ Ok n → queue_tick_call s kind dialect room m ≡ n)
        × ((tick_table t m room).answer ≡ Err r → queue_tick_call s kind dialect room m ≡ 4294967296 + number_of r)
    unfolding tick_number
    tick-answers m = ((λ e. rw e), (λ e. rw e))

    pub reload-answers : (new : List ℕ) → ((reload_tables rules s new room).answer ≡ Ok n → queue_reload_call s new kind dialect room ≡ n)
        × ((reload_tables rules s new room).answer ≡ Err r → queue_reload_call s new kind dialect room ≡ 4294967296 + number_of r)
    unfolding tick_number
    reload-answers new = ((λ e. rw e), (λ e. rw e))

    pub pop-answers : ((pop_table t room).answer ≡ Ok (Some n) → queue_pop_call s kind dialect room ≡ n)
        × ((pop_table t room).answer ≡ Ok None → queue_pop_call s kind dialect room ≡ 4294967296)
        × ((pop_table t room).answer ≡ Err r → queue_pop_call s kind dialect room ≡ 4294967296 + number_of r)
    unfolding pop_number
    pop-answers = ((λ e. rw e), (λ e. rw e), (λ e. rw e))

    pub look-answers : (place : ℕ) → (entry_table t place room ≡ Ok (Some n) → queue_entry_call s kind dialect room place ≡ n)
        × (entry_table t place room ≡ Ok None → queue_entry_call s kind dialect room place ≡ 4294967296)
        × (entry_table t place room ≡ Err r → queue_entry_call s kind dialect room place ≡ 4294967296 + number_of r)
    unfolding pop_number
    look-answers place = ((λ e. rw e), (λ e. rw e), (λ e. rw e))

  -- what is written
  module _ (n : ℕ) (r : Refusal) (buffer : List ℕ) where
    pub normal-answers : ((normal_form (dialect_of dialect) s buffer).answer ≡ Ok n → normal_form_call s dialect buffer ≡ n)
        × ((normal_form (dialect_of dialect) s buffer).answer ≡ Err r → normal_form_call s dialect buffer ≡ 4294967296 + number_of r)
    unfolding normal_number
    normal-answers = ((λ e. rw e), (λ e. rw e))

    pub compile-answers : ((compiled (dialect_of dialect) s buffer).answer ≡ Ok n → compile_call s dialect buffer ≡ n)
        × ((compiled (dialect_of dialect) s buffer).answer ≡ Err r → compile_call s dialect buffer ≡ 4294967296 + number_of r)
    unfolding normal_number
    compile-answers = ((λ e. rw e), (λ e. rw e))

    pub decompile-answers : ((decompiled s buffer).answer ≡ Ok n → decompile_call s buffer ≡ n)
        × ((decompiled s buffer).answer ≡ Err r → decompile_call s buffer ≡ 4294967296 + number_of r)
    unfolding normal_number
    decompile-answers = ((λ e. rw e), (λ e. rw e))

-- a date of six numbers, for every minute and every run that has room, one of just six, too
pub six-parts : (minute : ℕ) (run : List ℕ) → IsOk (date_written minute run)
    → date_run minute run ≡ over_front (date_part minute Year ∷ date_part minute Month ∷ date_part minute Day ∷ date_part minute Hour ∷ date_part minute Minute ∷ date_part minute Weekday ∷ []) run
six-parts minute run granted = date-parts minute run granted

-- the numbers of a command's two parts
pub split-numbers : ((n : ℕ) (i : Option ℕ) → split_number (Ok (record { shell = n; input = i })) ≡ n) × ((r : Refusal) → split_number (Err r) ≡ 4294967296 + number_of r)
    × ((n : ℕ) → input_number (Some n) ≡ n) × (input_number None ≡ 4294967296)
unfolding split_number input_number
split-numbers = ((λ n i. refl), (λ n. refl), (λ n. refl), refl)
