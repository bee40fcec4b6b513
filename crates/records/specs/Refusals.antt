-- The refusals of records, each for the first bad record. R12, R21 and R18 come after them (R38).
-- Assumes nothing.
use Rattle.refusal.specs.declared.Refusal.{Refusal}
use Rattle.refusal.specs.declared.Refusal.TheVariants.{CutShort, UnknownKind, Meaningless}

-- R22: cut short, or a length below 2
abbrev pub cut_short : Refusal
cut_short = CutShort

-- R23: an unknown kind below 32,768
abbrev pub unknown_kind : Refusal
unknown_kind = UnknownKind

-- R24: a body that no line could mean
abbrev pub meaningless : Refusal
meaningless = Meaningless
