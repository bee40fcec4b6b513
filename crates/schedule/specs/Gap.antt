-- The gap: the longest time from a minute to the next firing after it (N4).
-- Assumes nothing.
use Rattle.std.specs.Prelude.{ℕ, ◌*◌}

-- N4: from a 29 February on one weekday to the next on that weekday, over a century that isn't leap: 40 years
abbrev pub gap_days : ℕ
gap_days = 14609

-- N4: the same in minutes
abbrev pub gap : ℕ
gap = gap_days * 1440
