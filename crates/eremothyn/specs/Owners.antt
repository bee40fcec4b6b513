-- User, group and class of an entry as a C caller gets them (U4, A10).
-- Assumes nothing.
use Rattle.std.specs.Prelude.{ℕ, ◌+◌, ◌-◌, Result, Ok, Err}
use Rattle.refusal.specs.declared.Refusal.{Refusal}
use Rattle.refusal.specs.Numbers.{number_of}
use Rattle.line.specs.declared.user.Owner.{Owner}
use Rattle.eremothyn.specs.declared.owners.Owned.{Owned}
use Rattle.eremothyn.specs.declared.owners.Owned.TheVariants.{UserOffset, UserLength, GroupOffset, GroupLength, ClassOffset, ClassLength}
use Rattle.eremothyn.specs.Answer.{refused_from}

-- A10: place or length of one of them
abbrev pub owned_in : Owner → Owned → ℕ
owned_in o UserOffset = o.user.start
owned_in o UserLength = o.user.end - o.user.start
owned_in o GroupOffset = o.group.start
owned_in o GroupLength = o.group.end - o.group.start
owned_in o ClassOffset = o.class.start
owned_in o ClassLength = o.class.end - o.class.start

-- A2, A10: the same, or the refusal
unfoldable pub owner_number : Result Owner Refusal → Owned → ℕ
owner_number (Ok o) what = owned_in o what
owner_number (Err refusal) what = refused_from + number_of refusal
