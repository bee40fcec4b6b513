-- The refusals of the queue's calls (R28); R14 is the calendar's.
-- Assumes nothing.
use Rattle.std.specs.Prelude.{ℕ, Option, Some, None, Result, Ok, Err}
use Rattle.refusal.specs.declared.Refusal.{Refusal}
use Rattle.refusal.specs.declared.Refusal.TheVariants.{NotAQueue}
use Rattle.refusal.specs.Numbers.{number_of}

-- R28: not a queue of this table, or too few bytes for all its entries
abbrev pub not_a_queue : Refusal
not_a_queue = NotAQueue

-- A3, R28: the number of a refusal, 0 if there is none
unfoldable pub tick_refusal : Result ℕ Refusal → ℕ
tick_refusal (Ok n) = 0
tick_refusal (Err why) = number_of why

-- A3, R28: the same; "nothing waits" is no refusal
unfoldable pub pop_refusal : Result (Option ℕ) Refusal → ℕ
pop_refusal (Ok (Some e)) = 0
pop_refusal (Ok None) = 0
pop_refusal (Err why) = number_of why
