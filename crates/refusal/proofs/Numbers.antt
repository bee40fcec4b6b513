-- Laws of the refusals' numbers.
--   number-small: each is from 1 to 255
--   numbers-differ: no two refusals have the same
-- Assumes nothing.
use Rattle.std.proofs.Common.{◌≡◌, refl, sym, ap, ◌∙◌, ℕ, ◌-◌, get_or, arith}
use Rattle.refusal.specs.declared.Refusal.{Refusal}
use Rattle.refusal.specs.declared.Refusal.TheVariants.{TableTooLong, LineTooLong, NulByte, TooFewFields, Malformed, OutOfLimits, Reversed, StepZero, NoCommand, UnknownWord, BadSetting, TooManyEntries, NoSuchEntry, NotOnCalendar, AtBootOnly, Never, PastEnd, TooShort, NoSetting, BadUser, TooLong, CutShort, UnknownKind, Meaningless, BadOffset, CutTable, ControlByte, NotAQueue}
use Rattle.refusal.specs.Numbers.{number_of, IsRefusal, every_refusal}

pub number-small : (refusal : Refusal) → IsRefusal (number_of refusal)
unfolding number_of
number-small TableTooLong = (omega arith, omega arith)
number-small LineTooLong = (omega arith, omega arith)
number-small NulByte = (omega arith, omega arith)
number-small TooFewFields = (omega arith, omega arith)
number-small Malformed = (omega arith, omega arith)
number-small OutOfLimits = (omega arith, omega arith)
number-small Reversed = (omega arith, omega arith)
number-small StepZero = (omega arith, omega arith)
number-small NoCommand = (omega arith, omega arith)
number-small UnknownWord = (omega arith, omega arith)
number-small BadSetting = (omega arith, omega arith)
number-small TooManyEntries = (omega arith, omega arith)
number-small NoSuchEntry = (omega arith, omega arith)
number-small NotOnCalendar = (omega arith, omega arith)
number-small AtBootOnly = (omega arith, omega arith)
number-small Never = (omega arith, omega arith)
number-small PastEnd = (omega arith, omega arith)
number-small TooShort = (omega arith, omega arith)
number-small NoSetting = (omega arith, omega arith)
number-small BadUser = (omega arith, omega arith)
number-small TooLong = (omega arith, omega arith)
number-small CutShort = (omega arith, omega arith)
number-small UnknownKind = (omega arith, omega arith)
number-small Meaningless = (omega arith, omega arith)
number-small BadOffset = (omega arith, omega arith)
number-small CutTable = (omega arith, omega arith)
number-small ControlByte = (omega arith, omega arith)
number-small NotAQueue = (omega arith, omega arith)

-- ---- no two have the same

at-number : (refusal : Refusal) → get_or every_refusal (number_of refusal - 1) TableTooLong ≡ refusal
unfolding number_of every_refusal
at-number TableTooLong = refl
at-number LineTooLong = refl
at-number NulByte = refl
at-number TooFewFields = refl
at-number Malformed = refl
at-number OutOfLimits = refl
at-number Reversed = refl
at-number StepZero = refl
at-number NoCommand = refl
at-number UnknownWord = refl
at-number BadSetting = refl
at-number TooManyEntries = refl
at-number NoSuchEntry = refl
at-number NotOnCalendar = refl
at-number AtBootOnly = refl
at-number Never = refl
at-number PastEnd = refl
at-number TooShort = refl
at-number NoSetting = refl
at-number BadUser = refl
at-number TooLong = refl
at-number CutShort = refl
at-number UnknownKind = refl
at-number Meaningless = refl
at-number BadOffset = refl
at-number CutTable = refl
at-number ControlByte = refl
at-number NotAQueue = refl

pub numbers-differ : (r q : Refusal) → number_of r ≡ number_of q → r ≡ q
numbers-differ r q e = sym (at-number r) ∙ ap (λ (n : ℕ). get_or every_refusal (n - 1) TableTooLong) e ∙ at-number q

-- ---- what is no number of a refusal

-- a refusal isn't 0, and has eight bits
not-refusal : IsRefusal 1 × IsRefusal 255 × (IsRefusal 0 → ⊥) × (IsRefusal 256 → ⊥)
not-refusal = ((omega arith, omega arith), (omega arith, omega arith), (λ h. omega (arith, h.0)), (λ h. omega (arith, h.1)))
