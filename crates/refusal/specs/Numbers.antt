-- The numbers of the refusals (R1 to R28).
-- Assumes nothing.
use Rattle.std.specs.Prelude.{◌≡◌, refl, ℕ, ◌≤◌, List, [], ◌∷◌, map}
use Rattle.refusal.specs.declared.Refusal.{Refusal}
use Rattle.refusal.specs.declared.Refusal.TheVariants.{TableTooLong, LineTooLong, NulByte, TooFewFields, Malformed, OutOfLimits, Reversed, StepZero, NoCommand, UnknownWord, BadSetting, TooManyEntries, NoSuchEntry, NotOnCalendar, AtBootOnly, Never, PastEnd, TooShort, NoSetting, BadUser, TooLong, CutShort, UnknownKind, Meaningless, BadOffset, CutTable, ControlByte, NotAQueue}

-- R1 to R28
unfoldable pub number_of : Refusal → ℕ
number_of TableTooLong = 1
number_of LineTooLong = 2
number_of NulByte = 3
number_of TooFewFields = 4
number_of Malformed = 5
number_of OutOfLimits = 6
number_of Reversed = 7
number_of StepZero = 8
number_of NoCommand = 9
number_of UnknownWord = 10
number_of BadSetting = 11
number_of TooManyEntries = 12
number_of NoSuchEntry = 13
number_of NotOnCalendar = 14
number_of AtBootOnly = 15
number_of Never = 16
number_of PastEnd = 17
number_of TooShort = 18
number_of NoSetting = 19
number_of BadUser = 20
number_of TooLong = 21
number_of CutShort = 22
number_of UnknownKind = 23
number_of Meaningless = 24
number_of BadOffset = 25
number_of CutTable = 26
number_of ControlByte = 27
number_of NotAQueue = 28

-- A2: not 0, and at most eight bits
abbrev pub IsRefusal : ℕ → Type 0
IsRefusal number = (1 ≤ number) × (number ≤ 255)

-- R1 to R28, in their order
unfoldable pub every_refusal : List Refusal
every_refusal =
    TableTooLong
    ∷ LineTooLong
    ∷ NulByte
    ∷ TooFewFields
    ∷ Malformed
    ∷ OutOfLimits
    ∷ Reversed
    ∷ StepZero
    ∷ NoCommand
    ∷ UnknownWord
    ∷ BadSetting
    ∷ TooManyEntries
    ∷ NoSuchEntry
    ∷ NotOnCalendar
    ∷ AtBootOnly
    ∷ Never
    ∷ PastEnd
    ∷ TooShort
    ∷ NoSetting
    ∷ BadUser
    ∷ TooLong
    ∷ CutShort
    ∷ UnknownKind
    ∷ Meaningless
    ∷ BadOffset
    ∷ CutTable
    ∷ ControlByte
    ∷ NotAQueue
    ∷ []

every-number : map number_of every_refusal ≡ 1 ∷ 2 ∷ 3 ∷ 4 ∷ 5 ∷ 6 ∷ 7 ∷ 8 ∷ 9 ∷ 10 ∷ 11 ∷ 12 ∷ 13 ∷ 14 ∷ 15 ∷ 16 ∷ 17 ∷ 18 ∷ 19 ∷ 20 ∷ 21 ∷ 22 ∷ 23 ∷ 24 ∷ 25 ∷ 26 ∷ 27 ∷ 28 ∷ []
unfolding number_of every_refusal
every-number = refl
