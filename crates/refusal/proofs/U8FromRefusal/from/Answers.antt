-- A variant's number is its place among them, from 1.
use Rattle.std.proofs.Common.{◌≡◌, ◌+◌, refl}
use Rattle.refusal.specs.Numbers.{number_of}
use Rattle.refusal.specs.declared.Refusal.{Refusal}
use Rattle.refusal.specs.declared.Refusal.TheVariants.{TableTooLong, LineTooLong, NulByte, TooFewFields, Malformed, OutOfLimits, Reversed, StepZero, NoCommand, UnknownWord, BadSetting, TooManyEntries, NoSuchEntry, NotOnCalendar, AtBootOnly, Never, PastEnd, TooShort, NoSetting, BadUser, TooLong, CutShort, UnknownKind, Meaningless, BadOffset, CutTable, ControlByte, NotAQueue}
use Rattle.refusal.proofs.U8FromRefusal.from.Goals as goal

number-is_tag : (refusal : Refusal) → denote.Enum.Declared.tag_of Rattle.refusal.specs.contracts.Refusal.the_type refusal + 1 ≡ number_of refusal
unfolding number_of
number-is_tag TableTooLong = refl
number-is_tag LineTooLong = refl
number-is_tag NulByte = refl
number-is_tag TooFewFields = refl
number-is_tag Malformed = refl
number-is_tag OutOfLimits = refl
number-is_tag Reversed = refl
number-is_tag StepZero = refl
number-is_tag NoCommand = refl
number-is_tag UnknownWord = refl
number-is_tag BadSetting = refl
number-is_tag TooManyEntries = refl
number-is_tag NoSuchEntry = refl
number-is_tag NotOnCalendar = refl
number-is_tag AtBootOnly = refl
number-is_tag Never = refl
number-is_tag PastEnd = refl
number-is_tag TooShort = refl
number-is_tag NoSetting = refl
number-is_tag BadUser = refl
number-is_tag TooLong = refl
number-is_tag CutShort = refl
number-is_tag UnknownKind = refl
number-is_tag Meaningless = refl
number-is_tag BadOffset = refl
number-is_tag CutTable = refl
number-is_tag ControlByte = refl
number-is_tag NotAQueue = refl

pub returns : goal.returns
returns c = number-is_tag c.args.refusal
