-- The limits of a table (T1).
-- Assumes nothing.
use Rattle.std.specs.Prelude.{ℕ}

-- T1, R1: bytes
abbrev pub max_table : ℕ
max_table = 49152

-- T1, R12: entries
abbrev pub max_entries : ℕ
max_entries = 512
