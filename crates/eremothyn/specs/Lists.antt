-- A list of firings as a C caller gets it (A4).
-- Assumes nothing.
use Rattle.std.specs.Prelude.{ℕ, ◌+◌, Result, Ok, Err}
use Rattle.refusal.specs.declared.Refusal.{Refusal}
use Rattle.refusal.specs.Numbers.{number_of}
use Rattle.firings.specs.declared.Filled.{Filled}
use Rattle.firings.specs.declared.Filled.TheVariants.{All, More}
use Rattle.eremothyn.specs.Answer.{refused_from, more_from}

-- A2, A4: how many were written, and whether more remain
unfoldable pub filled_number : Result Filled Refusal → ℕ
filled_number (Ok (All n)) = n
filled_number (Ok (More n)) = more_from + n
filled_number (Err refusal) = refused_from + number_of refusal
