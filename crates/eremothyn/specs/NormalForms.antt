-- A text or records that are written, as a C caller gets them (P9, B7, B11). The order of refusals is R38.
-- Assumes nothing.
use Rattle.std.specs.Prelude.{ℕ, ◌+◌, Result, Ok, Err}
use Rattle.refusal.specs.declared.Refusal.{Refusal}
use Rattle.refusal.specs.Numbers.{number_of}
use Rattle.eremothyn.specs.Answer.{refused_from}

-- A1, A2: the length
unfoldable pub normal_number : Result ℕ Refusal → ℕ
normal_number (Ok size) = size
normal_number (Err refusal) = refused_from + number_of refusal
