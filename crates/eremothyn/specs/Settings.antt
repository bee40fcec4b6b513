-- A setting as a C caller gets it (S6, A10).
-- Assumes nothing.
use Rattle.std.specs.Prelude.{ℕ, ◌+◌, ◌-◌, Result, Ok, Err}
use Rattle.refusal.specs.declared.Refusal.{Refusal}
use Rattle.refusal.specs.Numbers.{number_of}
use Rattle.eremothyn.specs.declared.settings.Shown.{Shown}
use Rattle.eremothyn.specs.declared.settings.Shown.TheVariants.{NameOffset, NameLength, ValueOffset, ValueLength}
use Rattle.eremothyn.specs.Answer.{refused_from}
use Rattle.crontab.specs.declared.setting.Setting.{Setting}

-- A10: place or length of its name or value
abbrev pub shown_in : Setting → Shown → ℕ
shown_in a NameOffset = a.name.start
shown_in a NameLength = a.name.end - a.name.start
shown_in a ValueOffset = a.value.start
shown_in a ValueLength = a.value.end - a.value.start

-- A2, A10: the same, or the refusal
unfoldable pub setting_number : Result Setting Refusal → Shown → ℕ
setting_number (Ok a) what = shown_in a what
setting_number (Err refusal) what = refused_from + number_of refusal

-- A1, A2: the line of the next one
unfoldable pub line_number : Result ℕ Refusal → ℕ
line_number (Ok k) = k
line_number (Err refusal) = refused_from + number_of refusal
