-- The whole list of a table's firings, printed in pieces (X1): each has the lines of the firings after a minute and up to another, after
-- which the next piece goes on. That such pieces are the whole list is `pieces_whole` of proofs/Pieces.
-- Assumes nothing.
use Rattle.std.specs.Prelude.{◌≡◌, ◌⊎◌, ℕ, ◌≤◌, ◌<◌, List, [], ◌++◌, length, take, drop, Result, Ok, Err}
use Rattle.refusal.specs.declared.Refusal.{Refusal}
use Rattle.field.specs.declared.Dialect.TheVariants.{Rising}
use Rattle.line.specs.declared.Kind.TheVariants.{User}
use Rattle.crontab.specs.declared.table.Table.{Table}
use Rattle.crontab.specs.declared.table.TableFault.{TableFault}
use Rattle.crontab.specs.Tables.{table_of}
use Rattle.firings.specs.Lists.{Firing, merged_of}
use Rattle.firings.specs.Calls.{minutes_of, entries_of, merged_in}
use Rattle.firings.specs.Rising.{Given}
use Rattle.crontab_firings.specs.declared.piece.Piece.{Piece}
use Rattle.crontab_firings.specs.Lines.{Lines}

-- X1: a user table, in the rising dialect
abbrev pub user_table : List ℕ → Result Table TableFault
user_table s = table_of (record { kind = User; dialect = Rising }) s

-- X1: the lines of a list of firings
abbrev pub LinesOf : List Firing → List ℕ → Type 0
LinesOf list written = Lines (minutes_of list) (entries_of list) (length list) written

-- X1: so many bytes at the front of a text are the lines of the firings after minute a and up to `next`: that is b, or a minute between
-- them
pub record PieceLines (t : Result Table TableFault) (a b : ℕ) (before now : List ℕ) (size next : ℕ) : Type 0 where
  pub given : Given t a b
  pub within : size ≤ length now
  pub lines : LinesOf (merged_of t a next) (take size now)
  pub rest : drop size now ≡ drop size before
  pub onward : (next ≡ b) ⊎ ((a < next) × (next < b))

-- X1, X2: or the list is refused, and the text stays
abbrev pub PieceIs : Result Table TableFault → ℕ → ℕ → List ℕ → List ℕ → Result Piece Refusal → Type 0
PieceIs t a b before now (Ok piece) = PieceLines t a b before now piece.size piece.next
PieceIs t a b before now (Err refusal) = ((merged_in t a b [] []).answer ≡ Err refusal) × (now ≡ before)

-- X1: texts of pieces of a list after minute a and up to minute b, each of which goes on where the one before it ended
pub data Pieces (t : Result Table TableFault) (b : ℕ) : ℕ → List ℕ → Type 0 where
  last : {a : ℕ} (written : List ℕ) → LinesOf (merged_of t a b) written → Pieces t b a written
  more : {a next : ℕ} (written : List ℕ) {later : List ℕ} → a < next → next < b → LinesOf (merged_of t a next) written → Pieces t b next later
      → Pieces t b a (written ++ later)
