-- What the functions inside ask of each other. What a reader must believe is in EntryMeanings, Targets and Calls.
-- Assumes nothing.
use Rattle.std.specs.Prelude.{ℕ, ◌≤◌}
use Rattle.line.specs.declared.Part.{Part}
use Rattle.line.specs.declared.user.Owner.{Owner}

-- a part of n bytes
abbrev pub Inside : ℕ → Part → Type 0
Inside n p = (p.start ≤ p.end) × (p.end ≤ n)

abbrev pub OwnerInside : ℕ → Owner → Type 0
OwnerInside n o = Inside n o.user × Inside n o.group × Inside n o.class
