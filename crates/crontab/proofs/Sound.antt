-- What holds of the items of every table: entries and settings stand in it, an entry on the line that was read to it, there are no more
-- entries than there may be, and a fault has its number (R1 to R28) and its place.
-- Assumes nothing.
use Rattle.std.specs.Prelude.{Ok, Err, Result}
use Rattle.refusal.specs.declared.Refusal.TheVariants.{TableTooLong, TooManyEntries, CutTable}
use Rattle.refusal.specs.Numbers.{number_of}
use mathlib.Core.Path.{◌≡◌, refl}
use mathlib.Core.Bool.{Bool, true, false, cond, ◌&&◌, and-false, true≢false}
use mathlib.Core.List.{List, [], ◌∷◌, ◌++◌, append_assoc}
use Prim.Native.Nat.{ℕ, ◌+◌, ◌-◌, ◌≤◌, ◌<◌}
use native.Mathlib.Omega.{arith}
use lib.ListN.{length, drop, length-append}
use lib.Dec.{ltb}
use lib.IntN.{ℤ}
use borrow.Author.Tests.{ltb-true, ltb-false}
use Rattle.line.specs.declared.Rules.{Rules}
use Rattle.line.specs.declared.Part.{Part}
use Rattle.crontab.specs.declared.entry.Entry.{Entry}
use Rattle.line.specs.declared.Line.{Line}
use Rattle.line.specs.declared.Line.TheVariants as line
use Rattle.schedule.specs.Local.{OffsetInRange}
use Rattle.line.specs.Offsets.{utc, in_force}
use Rattle.crontab.specs.Limits.{max_table, max_entries}
use Rattle.line.specs.Limits.{max_line}
use Rattle.crontab.specs.Lines.{lines_of, is_cut, is_last}
use Rattle.line.specs.Lines.{read_line}
use Rattle.crontab.specs.Items.{Items, done, fault, setting, entry, moved, placed, after_line, last_fault, fault_of, items_from, items_of}
use Rattle.line.proofs.Theorems.{force-in, Inside, LineView, setting-zoned, line_view, LineRefused, refused}
use Rattle.crontab.proofs.Lines.{LinesAt, lines_at, lines-some}
use Rattle.octets.specs.Runs.{between}
use Rattle.octets.proofs.Places.{Stands, between-here}
use Rattle.line.specs.declared.time.When.{When}
use Rattle.field.specs.declared.Fault.{Fault}
pub use Rattle.crontab.specs.Inner.{Sound}

-- ---- items of a table, from line m on and after k entries

-- the line of an item comes after those before it, and isn't past the table's end
abbrev pub OnLine : ℕ → ℕ → ℕ → Type 0
OnLine n m line = (m ≤ line) × (line ≤ n + 1)

-- the line of an entry: it is the line of that number, and was read to just this entry
pub record EntryLine (rules : Rules) (s : List ℕ) (e : Entry) : Type 0 where
  pub before : List (List ℕ)
  pub later : List (List ℕ)
  pub lines : lines_of s ≡ before ++ between s e.at e.end ∷ later
  pub number : e.line ≡ length before + 1
  pub read : read_line rules (between s e.at e.end) ≡ Ok (line.Entry e.when (e.start - e.at))

module _ (rules : Rules) (s : List ℕ) where
  abbrev n : ℕ
  n = length s

  abbrev pub SoundItems : ℕ → ℕ → Items → Type 0
  SoundItems m k done = is_cut s ≡ false
  SoundItems m k (fault refusal line column) = LineRefused rules.dialect (max_line + 1) refusal column × (line ≤ max_table + 1)
  SoundItems m k (setting line name value later) = (Inside n name) × (Inside n value) × SoundItems (line + 1) k later × OnLine n m line
  SoundItems m k (entry e later) = (Sound n e) × (k < max_entries) × SoundItems (e.line + 1) (k + 1) later × OnLine n m e.line × EntryLine rules s e

  sound-before : (m k : ℕ) (x : Items) → SoundItems (m + 1) k x → SoundItems m k x
  sound-before m k done p = p
  sound-before m k (fault refusal line column) p = p
  sound-before m k (setting line name value later) p = (p.0, p.1, p.2, (omega (arith, p.3.0), p.3.1))
  sound-before m k (entry e later) p = (p.0, p.1, p.2, (omega (arith, p.3.0), p.3.1), p.4)

  -- a line of the table, which has a place and a number
  module _ (l : List ℕ) (before ls : List (List ℕ)) (at m k : ℕ) (lines : lines_of s ≡ before ++ l ∷ ls) (number : m ≡ length before + 1)
      (here : Stands s at l (drop (at + length l) s)) (h : at + length l ≤ n) (short : n ≤ max_table) (i : m ≤ at + 1) where
    moved_inside : (p : Part) → Inside (length l) p → Inside n (moved at p)
    moved_inside p i =
        let a = i.order in
        let b = i.within in
        record { order = omega arith; within = omega arith }

    entry-line : (o : ℤ) (when : When) (start : ℕ) → read_line rules l ≡ Ok (line.Entry when start) → EntryLine rules s (placed at m (length l) o when start)
    entry-line o when start is =
        let from : at + start - at ≡ start = omega arith in
        record { before = before; later = ls; lines = rw (between-here here) lines; number = number; read = rw (between-here here, from) is }

    line-sound : (o : ℤ) (x : Result Line Fault) (later : ℕ → ℤ → Items) → read_line rules l ≡ x → OffsetInRange o → LineView rules l x
        → ((j : ℕ) (p : ℤ) → OffsetInRange p → SoundItems (m + 1) j (later j p)) → SoundItems m k (after_line at m (length l) k o x later)
    unfolding after_line number_of
    line-sound o (Ok line.Ignored) later is z p q = sound-before m k (later k o) (q k o z)
    line-sound o (Ok (line.Setting name value zone)) later is z p q =
        (moved_inside name p.1.name_in, moved_inside value p.1.value_in, q k (in_force zone o) (force-in zone o (setting-zoned p.1) z), (omega arith, omega arith))
    line-sound o (Err f) later is z p q = (p, omega arith)
    line-sound o (Ok (line.Entry when start)) later is z p q = go (ltb k max_entries) refl
      where
        go : (t : Bool) → ltb k max_entries ≡ t → SoundItems m k (cond t (entry (placed at m (length l) o when start) (later (k + 1) o)) (fault TooManyEntries m 1))
        go true e =
            (record { line = omega arith; short = omega (arith, p.0); some = omega (arith, p.1.some); within = h; zone = z }, ltb-true _ _ e, q (k + 1) o z, (omega arith, omega arith), entry-line o when start is)
        go false e = (refused refl (omega arith), omega arith)

    -- of the last line, which is cut
    last-sound : (x : Result Line Fault) → LineView rules l x → SoundItems m k (fault_of m (last_fault (length l) k x))
    unfolding last_fault number_of
    last-sound (Ok line.Ignored) p = (refused refl (omega arith), omega arith)
    last-sound (Ok (line.Setting name value _)) p = (refused refl (omega (arith, p.0)), omega arith)
    last-sound (Err f) p = (p, omega arith)
    last-sound (Ok (line.Entry when start)) p = go (ltb k max_entries)
      where
        go : (t : Bool) → SoundItems m k (fault_of m (cond t (record { refusal = CutTable; column = length l + 1 }) (record { refusal = TooManyEntries; column = 1 })))
        go true = (refused refl (omega (arith, p.0)), omega arith)
        go false = (refused refl (omega arith), omega arith)

  from-sound : (at m k : ℕ) (o : ℤ) (before ls : List (List ℕ)) → lines_of s ≡ before ++ ls → m ≡ length before + 1 → n ≤ max_table → m ≤ at + 1 → OffsetInRange o
      → LinesAt s at ls → (is_cut s && is_last ls) ≡ false
      → SoundItems m k (items_from rules (is_cut s) at m k o ls)
  unfolding items_from is_last
  from-sound at m k o before [] lines number short i z w c = ends (is_cut s) c
    where
      ends : (cut : Bool) → (cut && true) ≡ false → cut ≡ false
      ends true e = absurd (true≢false e)
      ends false e = refl
  from-sound at m k o before (l ∷ ls) lines number short i z w c =
      go (is_cut s && is_last ls) refl
      (λ c j p y. from-sound (at + length l + 1) (m + 1) j p (before ++ l ∷ []) ls (rw append_assoc lines)
      (omega (arith, number, length-append before (l ∷ []))) short (omega arith) y w.2 c)
    where
      later : ℕ → ℤ → Items
      later j p = items_from rules (is_cut s) (at + length l + 1) (m + 1) j p ls

      go : (t : Bool) → (is_cut s && is_last ls) ≡ t → ((is_cut s && is_last ls) ≡ false → (j : ℕ) (p : ℤ) → OffsetInRange p → SoundItems (m + 1) j (later j p))
          → SoundItems m k (cond t (fault_of m (last_fault (length l) k (read_line rules l))) (after_line at m (length l) k o (read_line rules l) later))
      go true c more = last-sound l before ls at m k lines number w.0 w.1 short i (read_line rules l) (line_view rules l)
      go false c more = line-sound l before ls at m k lines number w.0 w.1 short i o (read_line rules l) later refl z (line_view rules l) (more c)

-- a table that is cut has a line
cut-lines : (s : List ℕ) → (is_cut s && is_last (lines_of s)) ≡ false
unfolding is_cut is_last lines_of
cut-lines [] = refl
cut-lines (b ∷ s) = rw (lines-some b s) (and-false (is_cut (b ∷ s)))

pub items-sound : (rules : Rules) (s : List ℕ) → SoundItems rules s 1 0 (items_of rules s)
unfolding items_of number_of
items-sound rules s = go (ltb max_table (length s)) refl
  where
    go : (t : Bool) → ltb max_table (length s) ≡ t
        → SoundItems rules s 1 0 (cond t (fault TableTooLong 0 0) (items_from rules (is_cut s) 0 1 0 utc (lines_of s)))
    go true e = (refused refl (omega arith), omega arith)
    go false e =
        from-sound rules s 0 1 0 utc [] (lines_of s) refl refl (ltb-false max_table (length s) e) (omega arith) (omega arith)
        (lines_at s 0 s refl) (cut-lines s)
