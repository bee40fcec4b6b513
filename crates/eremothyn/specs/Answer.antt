-- What a C caller gets: one number for a value or a refusal (A1 to A5).
-- Assumes nothing.
use Rattle.std.specs.Prelude.{ℕ, ◌+◌, ◌%◌, Bool, ltb, Result, Ok, Err}
use Rattle.refusal.specs.declared.Refusal.{Refusal}
use Rattle.refusal.specs.Numbers.{number_of}

-- A2, A3: a refusal is this plus its number
abbrev pub refused_from : ℕ
refused_from = 4294967296

-- A1, A2: a value is itself, or the refusal in its place
unfoldable pub answer_of : Result ℕ Refusal → ℕ
answer_of (Ok value) = value
answer_of (Err refusal) = refused_from + number_of refusal

-- A1, A2: of a result, what its value is as a number, or the refusal
unfoldable pub result_number : {A : Type 0} → (A → ℕ) → Result A Refusal → ℕ
result_number f (Ok value) = f value
result_number f (Err refusal) = refused_from + number_of refusal

-- A4: added to a list's count if more remain
abbrev pub more_from : ℕ
more_from = 8589934592

-- A5: EREMOTHYN_IS_REFUSED of the header
unfoldable pub is_refused : ℕ → Bool
is_refused answer = ltb refused_from (answer % more_from)
