-- User, group and class of an entry, as parts of the table (U4), read again from the entry's line. That this is the column which was judged
-- is `owner-judged` of proofs/Theorems. The order is R34.
-- Assumes nothing.
use Rattle.std.specs.Prelude.{ℕ, cond, List, ltb, Result, Ok, Err}
use Rattle.refusal.specs.declared.Refusal.{Refusal}
use Rattle.octets.specs.Runs.{between}
use Rattle.line.specs.declared.Part.{Part}
use Rattle.line.specs.declared.Rules.{Rules}
use Rattle.crontab.specs.declared.entry.Entry.{Entry}
use Rattle.line.specs.declared.user.Owner.{Owner}
use Rattle.line.specs.Users.{absent}
use Rattle.line.specs.Entries.{by_kind}
use Rattle.line.specs.Owners.{nobody, line_owner}
use Rattle.crontab.specs.Items.{moved}
use Rattle.crontab.specs.Tables.{table_of, entry_in}

-- ---- the line starts at a place of the table

-- U4: a part of a line that starts at a place of the table; an absent one stays at 0
unfoldable pub shifted : ℕ → Part → Part
shifted at p = cond (ltb p.start p.end) (moved at p) absent

-- U4: all three
abbrev pub shifted_all : ℕ → Owner → Owner
shifted_all at o = record { user = shifted at o.user; group = shifted at o.group; class = shifted at o.class }

-- U4: of a line that starts at a place
unfoldable pub owner_from : Rules → ℕ → List ℕ → Owner
owner_from rules at l = by_kind rules.kind nobody (shifted_all at (line_owner l))

-- U4: of an entry
unfoldable pub owner_of : Rules → List ℕ → Entry → Owner
owner_of rules s e = owner_from rules e.at (between s e.at e.end)

-- U4, R34: of an entry that is found or isn't
unfoldable pub owner_answer : Rules → List ℕ → Result Entry Refusal → Result Owner Refusal
owner_answer rules s (Ok e) = Ok (owner_of rules s e)
owner_answer rules s (Err refusal) = Err refusal

-- U4, R34: of the entry of a number, counted from 0
abbrev pub owner_in : Rules → List ℕ → ℕ → Result Owner Refusal
owner_in rules s i = owner_answer rules s (entry_in (table_of rules s) i)
