-- A view of an entry that is found by its number: for each answer of `entry_in` all that is known of it, proved once.
-- Assumes nothing.
use mathlib.Core.Path.{◌≡◌}
use mathlib.Core.Bool.{Bool, true, false, cond}
use mathlib.Core.List.{List}
use Prim.Native.Nat.{ℕ, ◌+◌, ◌≤◌}
use native.Mathlib.Omega.{arith}
use lib.ListN.{length}
use lib.Dec.{eqb}
use Rattle.std.specs.Prelude.{Result, Ok, Err}
use Rattle.refusal.specs.declared.Refusal.{Refusal}
use Rattle.refusal.specs.declared.Refusal.TheVariants.{NoSuchEntry}
use Rattle.line.specs.declared.Rules.{Rules}
use Rattle.crontab.specs.declared.entry.Entry.{Entry}
use Rattle.crontab.specs.Items.{Items, done, fault, setting, entry, items_of}
use Rattle.crontab.specs.Tables.{table_of, entry_in}
use Rattle.crontab.proofs.Sound.{Sound, OnLine, EntryLine, SoundItems, items-sound}
use Rattle.crontab.proofs.Tables.{entry_from, table-entry}

pub record FoundEntry (rules : Rules) (s : List ℕ) (e : Entry) : Type 0 where
  pub sound : Sound (length s) e
  pub on : OnLine (length s) 1 e.line
  pub line : EntryLine rules s e

module _ (rules : Rules) (s : List ℕ) where
  abbrev pub FoundView : Result Entry Refusal → Type 0
  FoundView (Ok e) = FoundEntry rules s e
  FoundView (Err refusal) = Unit {0}

  from_view : (m k i : ℕ) (f : Result Entry Refusal) (items : Items) → 1 ≤ m → FoundView f → SoundItems rules s m k items → FoundView (entry_from f k i items)
  unfolding entry_from
  from_view m k i f done h p q = p
  from_view m k i f (fault refusal line column) h p q = tt
  from_view m k i f (setting line name value later) h p q = from_view (line + 1) k i f later (omega arith) p q.2
  from_view m k i f (entry e later) h p q = from_view (e.line + 1) (k + 1) i (cond (eqb k i) (Ok e) f) later (omega arith) (go (eqb k i)) q.2
    where
      go : (t : Bool) → FoundView (cond t (Ok e) f)
      go true = record { sound = q.0; on = (omega (arith, q.3.0), q.3.1); line = q.4 }
      go false = p

  pub found-view : (i : ℕ) → FoundView (entry_in (table_of rules s) i)
  found-view i = rw (table-entry rules s i) (from_view 1 0 i (Err NoSuchEntry) (items_of rules s) (omega arith) tt (items-sound rules s))

  -- ---- projections

  module _ (i : ℕ) {e : Entry} (is : entry_in (table_of rules s) i ≡ Ok e) where
    pub found-entry : FoundEntry rules s e
    found-entry = rw is at (found-view i)

    pub entry-sound : Sound (length s) e
    entry-sound = found-entry.sound

    -- it is on a line of its table
    pub entry-on-line : (1 ≤ e.line) × (e.line ≤ length s + 1)
    entry-on-line = found-entry.on
