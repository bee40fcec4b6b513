-- Settings by the number of their line (S8, S9). The order is R35.
-- Assumes nothing.
use Rattle.std.specs.Prelude.{ℕ, cond, List, [], eqb, leb, Result, Ok, Err}
use Rattle.refusal.specs.declared.Refusal.{Refusal}
use Rattle.line.specs.declared.Part.{Part}
use Rattle.line.specs.Assignments.{part_bytes}
use Rattle.crontab.specs.Refusals.{no_setting}
use Rattle.crontab.specs.Items.{Items, done, fault, setting, entry}
use Rattle.crontab.specs.declared.setting.Setting.{Setting}

-- S6: name and value
abbrev pub shown : Part → Part → Result Setting Refusal
shown name value = Ok (record { name = name; value = value })

-- S6, R40: its name, which is empty where it is refused
unfoldable pub name_in : List ℕ → Result Setting Refusal → List ℕ
name_in s (Ok a) = part_bytes s a.name
name_in s (Err refusal) = []

-- S6, R40: its value, likewise
unfoldable pub value_in : List ℕ → Result Setting Refusal → List ℕ
value_in s (Ok a) = part_bytes s a.value
value_in s (Err refusal) = []

-- S8, R35: the setting of line n, or what was found so far; a fault refuses the table whole
unfoldable pub setting_from : Result Setting Refusal → ℕ → Items → Result Setting Refusal
setting_from so_far n done = so_far
setting_from so_far n (fault refusal line column) = Err refusal
setting_from so_far n (setting line name value later) = setting_from (cond (eqb line n) (shown name value) so_far) n later
setting_from so_far n (entry e later) = setting_from so_far n later

-- S8, R19: the setting of line n
unfoldable pub setting_in : Items → ℕ → Result Setting Refusal
setting_in items n = setting_from (Err no_setting) n items

-- ---- the first setting from a line on

-- S9: the line found before, or else this one if it is line n or a later one
unfoldable pub line_or : Result ℕ Refusal → ℕ → ℕ → Result ℕ Refusal
line_or (Ok k) n line = Ok k
line_or (Err refusal) n line = cond (leb n line) (Ok line) (Err refusal)

-- S9, R35: the first line from n on that is a setting, or what was found so far; a fault refuses the table whole
unfoldable pub next_line_from : Result ℕ Refusal → ℕ → Items → Result ℕ Refusal
next_line_from so_far n done = so_far
next_line_from so_far n (fault refusal line column) = Err refusal
next_line_from so_far n (setting line name value later) = next_line_from (line_or so_far n line) n later
next_line_from so_far n (entry e later) = next_line_from so_far n later

-- S9, R19: the next setting from line n on; `next-setting` of proofs/Theorems says it without recursion
unfoldable pub next_line_in : Items → ℕ → Result ℕ Refusal
next_line_in items n = next_line_from (Err no_setting) n items
