-- The refusal of a split (R18).
-- Assumes nothing.
use Rattle.refusal.specs.declared.Refusal.{Refusal}
use Rattle.refusal.specs.declared.Refusal.TheVariants.{TooShort}

-- R18: a buffer is too short
abbrev pub too_short : Refusal
too_short = TooShort
