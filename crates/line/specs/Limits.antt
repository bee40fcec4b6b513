-- The limits of a line (T1) and of its user column (U2).
-- Assumes nothing.
use Rattle.std.specs.Prelude.{ℕ}

-- T1, R2: without its newline
abbrev pub max_line : ℕ
max_line = 1000

-- U2: a user, a group or a class
abbrev pub max_account : ℕ
max_account = 32
