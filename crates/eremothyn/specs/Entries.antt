-- One entry as a C caller gets it (A1): whether it is due, its next firing, its line and its raw command (E7).
-- Assumes nothing.
use Rattle.std.specs.Prelude.{ℕ, ◌+◌, ◌-◌, Result, Ok, Err, true, false, Bool}
use Rattle.refusal.specs.declared.Refusal.{Refusal}
use Rattle.refusal.specs.Numbers.{number_of}
use Rattle.crontab.specs.declared.entry.Entry.{Entry}
use Rattle.eremothyn.specs.declared.entries.Place.{Place}
use Rattle.eremothyn.specs.declared.entries.Place.TheVariants.{Line, CommandOffset, CommandLength}
use Rattle.eremothyn.specs.Answer.{refused_from}

-- A1, A2: yes is 1 and no is 0
unfoldable pub due_number : Result Bool Refusal → ℕ
due_number (Ok true) = 1
due_number (Ok false) = 0
due_number (Err refusal) = refused_from + number_of refusal

-- A1, A2: the minute
unfoldable pub next_number : Result ℕ Refusal → ℕ
next_number (Ok m) = m
next_number (Err refusal) = refused_from + number_of refusal

-- E7: line, place and length
abbrev pub place_in : Entry → Place → ℕ
place_in e Line = e.line
place_in e CommandOffset = e.start
place_in e CommandLength = e.end - e.start

-- E7, A10: of an entry that is found or isn't
unfoldable pub place_number : Result Entry Refusal → Place → ℕ
place_number (Ok e) what = place_in e what
place_number (Err refusal) what = refused_from + number_of refusal
