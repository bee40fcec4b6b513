-- The queue as a C caller gets it (A1, A3).
-- Assumes nothing.
use Rattle.std.specs.Prelude.{ℕ, ◌+◌, Option, Some, None, Result, Ok, Err}
use Rattle.refusal.specs.declared.Refusal.{Refusal}
use Rattle.refusal.specs.Numbers.{number_of}
use Rattle.eremothyn.specs.Answer.{refused_from}

-- A1, A2: a count
unfoldable pub tick_number : Result ℕ Refusal → ℕ
tick_number (Ok n) = n
tick_number (Err refusal) = refused_from + number_of refusal

-- A1, A2, A3: an entry's number, or that nothing waits
unfoldable pub pop_number : Result (Option ℕ) Refusal → ℕ
pop_number (Ok (Some e)) = e
pop_number (Ok None) = refused_from
pop_number (Err refusal) = refused_from + number_of refusal
