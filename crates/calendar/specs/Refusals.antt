-- The refusal of a minute or a date (R14).
-- Assumes nothing.
use Rattle.refusal.specs.declared.Refusal.{Refusal}
use Rattle.refusal.specs.declared.Refusal.TheVariants.{NotOnCalendar}

-- R14: not on the calendar
abbrev pub not_on_calendar : Refusal
not_on_calendar = NotOnCalendar
