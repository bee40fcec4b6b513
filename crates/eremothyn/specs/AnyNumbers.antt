-- A6: in each call every number but 0 is a system table, or the wrapping dialect, as 1 is. These hold of any numbers, whatever their width.
-- And dates whose numbers are past 8, 16 and 32 bits, lines past 15 bits, and the longest name and value (A7).
-- Assumes nothing.
use Rattle.std.specs.Prelude.{◌≡◌, refl, List, [], ◌∷◌, ◌++◌, ℕ, suc, replicate}
use Rattle.octets.specs.Texts.{text}
use Rattle.octets.specs.Rows.{Hold}
use Rattle.eremothyn.specs.Dates.{date_minute}
use Rattle.eremothyn.specs.Calls.{check_call, fault_line_call, fault_column_call, due_call, next_call, entry_line_call, command_offset_call, command_length_call, firings_call, firings_run, merged_firings_call, merged_firings_minutes, merged_firings_entries}
use Rattle.eremothyn.specs.Calls.{split_command_call, split_command_shell, split_command_input, stdin_length_call, user_offset_call, user_length_call, group_offset_call, group_length_call, class_offset_call, class_length_call}
use Rattle.eremothyn.specs.Calls.{setting_name_offset_call, setting_name_length_call, setting_value_offset_call, setting_value_length_call, next_setting_call, normal_form_call, normal_form_text, compile_call, compile_records}
use Rattle.eremothyn.specs.Calls.{queue_init_call, queue_init_room, queue_tick_call, queue_tick_room, queue_pop_call, queue_pop_room, queue_entry_call, queue_reload_call, queue_reload_room}
use Rattle.eremothyn.specs.Computing.{answering}

-- a call by its kind and its dialect: each alone, and both
abbrev Chosen : {A : Type 0} → (ℕ → ℕ → A) → Type 0
Chosen call = (k d : ℕ) → (call (suc k) 0 ≡ call 1 0) × (call 0 (suc d) ≡ call 0 1) × (call (suc k) (suc d) ≡ call 1 1)

chosen : (s : List ℕ) (i m n : ℕ) (a b : List ℕ)
    → Chosen (check_call s) × Chosen (fault_line_call s) × Chosen (fault_column_call s)
    × Chosen (λ k d. due_call s k d i m) × Chosen (λ k d. next_call s k d i m)
    × Chosen (λ k d. entry_line_call s k d i) × Chosen (λ k d. command_offset_call s k d i) × Chosen (λ k d. command_length_call s k d i)
    × Chosen (λ k d. firings_call s k d i m n a) × Chosen (λ k d. firings_run s k d i m n a)
    × Chosen (λ k d. merged_firings_call s k d m n a b) × Chosen (λ k d. merged_firings_minutes s k d m n a b) × Chosen (λ k d. merged_firings_entries s k d m n a b)
    × Chosen (λ k d. split_command_call s k d i a b) × Chosen (λ k d. split_command_shell s k d i a b) × Chosen (λ k d. split_command_input s k d i a b)
    × Chosen (λ k d. stdin_length_call s k d i)
    × Chosen (λ k d. user_offset_call s k d i) × Chosen (λ k d. user_length_call s k d i) × Chosen (λ k d. group_offset_call s k d i)
    × Chosen (λ k d. group_length_call s k d i) × Chosen (λ k d. class_offset_call s k d i) × Chosen (λ k d. class_length_call s k d i)
    × Chosen (λ k d. setting_name_offset_call s k d i) × Chosen (λ k d. setting_name_length_call s k d i)
    × Chosen (λ k d. setting_value_offset_call s k d i) × Chosen (λ k d. setting_value_length_call s k d i) × Chosen (λ k d. next_setting_call s k d i)
    × Chosen (λ k d. normal_form_call s d a) × Chosen (λ k d. normal_form_text s d a) × Chosen (λ k d. compile_call s d a) × Chosen (λ k d. compile_records s d a)
    × Chosen (λ k d. queue_init_call s k d a) × Chosen (λ k d. queue_init_room s k d a) × Chosen (λ k d. queue_tick_call s k d a m) × Chosen (λ k d. queue_tick_room s k d a m)
    × Chosen (λ k d. queue_pop_call s k d a) × Chosen (λ k d. queue_pop_room s k d a) × Chosen (λ k d. queue_entry_call s k d a i)
    × Chosen (λ k d. queue_reload_call s b k d a) × Chosen (λ k d. queue_reload_room s b k d a)
chosen s i m n a b = (
  (λ k d. (refl, refl, refl)),
  (λ k d. (refl, refl, refl)),
  (λ k d. (refl, refl, refl)),
  (λ k d. (refl, refl, refl)),
  (λ k d. (refl, refl, refl)),
  (λ k d. (refl, refl, refl)),
  (λ k d. (refl, refl, refl)),
  (λ k d. (refl, refl, refl)),
  (λ k d. (refl, refl, refl)),
  (λ k d. (refl, refl, refl)),
  (λ k d. (refl, refl, refl)),
  (λ k d. (refl, refl, refl)),
  (λ k d. (refl, refl, refl)),
  (λ k d. (refl, refl, refl)),
  (λ k d. (refl, refl, refl)),
  (λ k d. (refl, refl, refl)),
  (λ k d. (refl, refl, refl)),
  (λ k d. (refl, refl, refl)),
  (λ k d. (refl, refl, refl)),
  (λ k d. (refl, refl, refl)),
  (λ k d. (refl, refl, refl)),
  (λ k d. (refl, refl, refl)),
  (λ k d. (refl, refl, refl)),
  (λ k d. (refl, refl, refl)),
  (λ k d. (refl, refl, refl)),
  (λ k d. (refl, refl, refl)),
  (λ k d. (refl, refl, refl)),
  (λ k d. (refl, refl, refl)),
  (λ k d. (refl, refl, refl)),
  (λ k d. (refl, refl, refl)),
  (λ k d. (refl, refl, refl)),
  (λ k d. (refl, refl, refl)),
  (λ k d. (refl, refl, refl)),
  (λ k d. (refl, refl, refl)),
  (λ k d. (refl, refl, refl)),
  (λ k d. (refl, refl, refl)),
  (λ k d. (refl, refl, refl)),
  (λ k d. (refl, refl, refl)),
  (λ k d. (refl, refl, refl)),
  (λ k d. (refl, refl, refl)),
  (λ k d. (refl, refl, refl)),
)

-- in a year, a month, a day, an hour or a minute more than there is: 14
far-dates : Hold (λ (date : ℕ × ℕ × ℕ × ℕ × ℕ). let (year, month, day, hour, minute) = date in date_minute year month day hour minute)
    (((1970, 1, 1, 0, 1), 1)
    ∷ ((2226, 1, 1, 0, 0), 134642880)
    ∷ ((67506, 1, 1, 0, 0), 4294967310)
    ∷ ((4294969266, 1, 1, 0, 0), 4294967310)
    ∷ ((1970, 257, 1, 0, 0), 4294967310)
    ∷ ((1970, 65537, 1, 0, 0), 4294967310)
    ∷ ((1970, 4294967297, 1, 0, 0), 4294967310)
    ∷ ((1970, 1, 257, 0, 0), 4294967310)
    ∷ ((1970, 1, 65537, 0, 0), 4294967310)
    ∷ ((1970, 1, 4294967297, 0, 0), 4294967310)
    ∷ ((1970, 1, 1, 256, 0), 4294967310)
    ∷ ((1970, 1, 1, 65536, 0), 4294967310)
    ∷ ((1970, 1, 1, 4294967296, 0), 4294967310)
    ∷ ((1970, 1, 1, 0, 256), 4294967310)
    ∷ ((1970, 1, 1, 0, 65536), 4294967310)
    ∷ ((1970, 1, 1, 0, 4294967296), 4294967310)
    ∷ [])
unfolding answering
far-dates = refl

-- line 33,001, and its entry's
far-lines : (fault_line_call (replicate 33000 10 ++ text "A\n") 1 1 ≡ 33001) × (entry_line_call (replicate 33000 10 ++ text "@reboot a\n") 0 1 0 ≡ 33001)
unfolding answering
far-lines = (refl, refl)

-- lines of 1,000 bytes
long-settings : let value : List ℕ = text "A=" ++ replicate 998 98 ++ text "\n" in
    let name : List ℕ = replicate 998 65 ++ text "=b\n" in
    (setting_value_length_call value 0 0 1 ≡ 998)
    × (setting_name_length_call name 1 1 1 ≡ 998)
    × (setting_value_offset_call name 0 1 1 ≡ 999)
unfolding answering
long-settings = (refl, refl, refl)
