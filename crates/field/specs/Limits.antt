-- The limits of the five fields (F1), the bits that their sets have (F8), and both in the wrapping dialect (W3).
-- Assumes nothing.
use Rattle.std.specs.Prelude.{◌-◌, true, false}
use Rattle.field.specs.declared.Dialect.{Dialect}
use Rattle.field.specs.declared.Dialect.TheVariants.{Rising, Wrapping}
use Rattle.field.specs.declared.Limits.{Limits}
use Rattle.field.specs.declared.Names.TheVariants.{None, Months, Weekdays}

-- F1: 0 to 59
abbrev pub minute_limits : Limits
minute_limits = record { first = 0; last = 59; bits = 60; names = None; wraps = false }

-- F1: 0 to 23
abbrev pub hour_limits : Limits
hour_limits = record { first = 0; last = 23; bits = 24; names = None; wraps = false }

-- F1: 1 to 31
abbrev pub day_limits : Limits
day_limits = record { first = 1; last = 31; bits = 32; names = None; wraps = false }

-- F1: 1 to 12
abbrev pub month_limits : Limits
month_limits = record { first = 1; last = 12; bits = 13; names = Months; wraps = false }

-- F1, F8: 0 to 7, of which seven have bits of their own
abbrev pub weekday_limits : Limits
weekday_limits = record { first = 0; last = 7; bits = 7; names = Weekdays; wraps = false }

-- W1, W3, W5: in the wrapping dialect ranges wrap, and the values are those with bits of their own
unfoldable pub in_dialect : Dialect → Limits → Limits
in_dialect Rising l = l
in_dialect Wrapping l = record { first = l.first; last = l.bits - 1; bits = l.bits; names = l.names; wraps = true }
