-- The refusals of a line. R5 to R8 are in field's Refusals.
-- Assumes nothing.
use Rattle.refusal.specs.declared.Refusal.{Refusal}
use Rattle.refusal.specs.declared.Refusal.TheVariants.{LineTooLong, NulByte, TooFewFields, NoCommand, UnknownWord, BadSetting, BadUser, BadOffset, ControlByte}

-- R2: too many bytes
abbrev pub line_too_long : Refusal
line_too_long = LineTooLong

-- R3: a byte 0
abbrev pub nul_byte : Refusal
nul_byte = NulByte

-- R4: fewer than five fields
abbrev pub too_few_fields : Refusal
too_few_fields = TooFewFields

-- R9: no command
abbrev pub no_command : Refusal
no_command = NoCommand

-- R10: an unknown `@` word
abbrev pub unknown_word : Refusal
unknown_word = UnknownWord

-- R11: a malformed setting
abbrev pub bad_setting : Refusal
bad_setting = BadSetting

-- R20: a malformed user column
abbrev pub bad_user : Refusal
bad_user = BadUser

-- R25: the value of `CRON_TZ` is no offset
abbrev pub bad_offset : Refusal
bad_offset = BadOffset

-- R27: a control byte
abbrev pub control_byte : Refusal
control_byte = ControlByte
