-- The refusals of a field (R5 to R8).
-- Assumes nothing.
use Rattle.refusal.specs.declared.Refusal.{Refusal}
use Rattle.refusal.specs.declared.Refusal.TheVariants.{Malformed, OutOfLimits, Reversed, StepZero}

-- R5: not of the form
abbrev pub malformed : Refusal
malformed = Malformed

-- R6: a number outside the field's limits
abbrev pub out_of_limits : Refusal
out_of_limits = OutOfLimits

-- R7: a range from high to low
abbrev pub reversed : Refusal
reversed = Reversed

-- R8: a step of 0
abbrev pub step_zero : Refusal
step_zero = StepZero
