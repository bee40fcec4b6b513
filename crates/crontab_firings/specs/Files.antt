-- What the functions that read a file promise each other: how many bytes of a text are read, and that they are the file's, where its reader
-- says which those are. No contract can say which bytes a file of the system has, nor what is printed, so X3 and X5 are compared by tests.
-- Assumes nothing.
use Rattle.std.specs.Prelude.{◌≡◌, ℕ, ◌≤◌, ◌<◌, List, [], Option, length, take, slice_range, Some, None, Result, Ok, Err}
use Rattle.std.specs.Io.KnownBytes.{Consumes, IsAtEnd}
use Rattle.io.specs.Counts.{IsPrefixLen}

-- X3: one read, after so many bytes, the file's end, or a read that fails
abbrev pub TurnIs : {E : Type 0} → ℕ → List ℕ → Result (Option ℕ) E → Type 0
TurnIs at text (Ok (Some next)) = (at < next) × (next ≤ length text)
TurnIs at text (Ok None) = Unit {0}
TurnIs at text (Err e) = Unit {0}

-- X3: the bytes that a file has left before one read and after it. They are read to their place, and those before it stay; at the end none
-- is left.
abbrev pub TurnTakes : {E : Type 0} → Option (List ℕ) → Option (List ℕ) → ℕ → List ℕ → List ℕ → Result (Option ℕ) E → Type 0
TurnTakes left rest at before now (Ok (Some next)) = (take at now ≡ take at before) × Consumes left rest (slice_range now at next)
TurnTakes left rest at before now (Ok None) = (take at now ≡ take at before) × Consumes left rest [] × (at < length before → IsAtEnd rest)
TurnTakes left rest at before now (Err e) = Unit {0}

-- X3, X5: the bytes of a file, or that it can't be read
abbrev pub WholeIs : {E : Type 0} → List ℕ → Result ℕ E → Type 0
WholeIs text (Ok n) = IsPrefixLen n text
WholeIs text (Err e) = Unit {0}

-- X3, X5: the bytes that a file has left, before and after: those of the text are the first of them, and all where there is room for more.
abbrev pub WholeTakes : {E : Type 0} → Option (List ℕ) → Option (List ℕ) → List ℕ → Result ℕ E → Type 0
WholeTakes left rest text (Ok n) = Consumes left rest (take n text) × (n < length text → IsAtEnd rest)
WholeTakes left rest text (Err e) = Unit {0}
