-- The refusals of the normal form, besides the table's (R18, R21).
-- Assumes nothing.
use Rattle.refusal.specs.declared.Refusal.{Refusal}
use Rattle.refusal.specs.declared.Refusal.TheVariants.{TooShort, TooLong}

-- R18: the buffer is too short
abbrev pub too_short : Refusal
too_short = TooShort

-- R21: a line or the text passes the limits
abbrev pub too_long : Refusal
too_long = TooLong
