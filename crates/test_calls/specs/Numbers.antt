-- An answer as one plain number.
-- Assumes nothing.
use Rattle.std.specs.Prelude.{ℕ, ◌+◌, Result, Ok, Err}
use Rattle.refusal.specs.declared.Refusal.{Refusal}
use Rattle.refusal.specs.Numbers.{number_of as refusal_number}

-- inner: a minute, or 4,294,967,296 and the refusal's number
unfoldable pub number_of : Result ℕ Refusal → ℕ
number_of (Ok minute) = minute
number_of (Err refusal) = 4294967296 + refusal_number refusal
