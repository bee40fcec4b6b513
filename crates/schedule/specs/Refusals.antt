-- The refusals of a next firing (R16, R17).
-- Assumes nothing.
use Rattle.refusal.specs.declared.Refusal.{Refusal}
use Rattle.refusal.specs.declared.Refusal.TheVariants.{Never, PastEnd}

-- R16: no minute of the cycle matches
abbrev pub never_fires : Refusal
never_fires = Never

-- R17: would fire, but not before the calendar ends
abbrev pub past_the_end : Refusal
past_the_end = PastEnd
