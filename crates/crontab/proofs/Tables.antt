-- Laws of a table by its items: an entry is found in one walk, with no other kept.
-- Assumes nothing.
use mathlib.Core.Path.{◌≡◌, refl, sym, ◌∙◌}
use mathlib.Core.Bool.{Bool, true, false, cond}
use mathlib.Core.List.{List}
use Prim.Native.Nat.{ℕ, ◌+◌, ◌≤◌, ◌<◌}
use native.Mathlib.Nat.{lt_of_not-le}
use native.Mathlib.Decide.{dec_le}
use native.Mathlib.Omega.{arith}
use lib.ListN.{length, get_or, set, length-set}
use lib.Seq.{get_or-set_same, get_or-set_other}
use lib.Dec.{eqb, ltb}
use borrow.Author.Tests.{lt-ltb, le-ltb, eqb-true, eqb-false}
use Rattle.std.specs.Prelude.{Result, Ok, Err}
use Rattle.refusal.specs.declared.Refusal.{Refusal}
use Rattle.refusal.specs.declared.Refusal.TheVariants.{NoSuchEntry}
use Rattle.refusal.proofs.Numbers.{number-small}
use Rattle.line.specs.declared.Rules.{Rules}
use Rattle.crontab.specs.declared.entry.Entry.{Entry}
use Rattle.crontab.specs.declared.table.Table.{Table}
use Rattle.crontab.specs.declared.table.TableFault.{TableFault}
use Rattle.crontab.specs.Limits.{max_entries}
use Rattle.crontab.specs.Items.{Items, done, fault, setting, entry, items_of}
use Rattle.crontab.specs.Tables.{refusal_in, line_in, column_in, count_in, blank_entry, no_entries, refused_table, empty_table, with_entry, with_items, table_of, verdict_of, entry_in}
use Rattle.crontab.proofs.Sound.{SoundItems, items-sound}

-- what is refused, or isn't, by its number
pub good-is : {A : Type 0} (t : Result A TableFault) → refusal_in t ≡ 0 → (x : A) × (t ≡ Ok x)
good-is (Ok x) good = (x, refl)
good-is (Err f) good = absurd (omega (arith, good, number-small f.refusal))

pub bad-is : {A : Type 0} (t : Result A TableFault) → (refusal_in t ≡ 0 → ⊥) → (f : TableFault) × (t ≡ Err f)
bad-is (Ok x) bad = absurd (bad refl)
bad-is (Err f) bad = (f, refl)

pub refused-some : {A : Type 0} (t : Result A TableFault) {f : TableFault} → t ≡ Err f → refusal_in t ≡ 0 → ⊥
refused-some (Ok x) e good = cc
refused-some (Err f) e good = omega (arith, good, number-small f.refusal)

-- a table so far
abbrev pub good : ℕ → List Entry → Table
good count entries = record { count = count; entries = entries }

-- entry i, or what was found so far, behind k entries
unfoldable pub entry_from : Result Entry Refusal → ℕ → ℕ → Items → Result Entry Refusal
entry_from so_far k i done = so_far
entry_from so_far k i (fault refusal line column) = Err refusal
entry_from so_far k i (setting line name value later) = entry_from so_far k i later
entry_from so_far k i (entry e later) = entry_from (cond (eqb k i) (Ok e) so_far) (k + 1) i later

-- the verdict behind k entries
unfoldable pub verdict_from : ℕ → Items → Result ℕ TableFault
verdict_from k done = Ok k
verdict_from k (fault refusal line column) = Err (record { refusal = refusal; line = line; column = column })
verdict_from k (setting line name value later) = verdict_from k later
verdict_from k (entry e later) = verdict_from (k + 1) later

verdict-found : (k : ℕ) (es : List Entry) (items : Items) → verdict_from k items ≡ verdict_of (with_items (good k es) items)
unfolding verdict_from verdict_of with_items with_entry refused_table
verdict-found k es done = refl
verdict-found k es (fault refusal line column) = refl
verdict-found k es (setting line name value later) = verdict-found k es later
verdict-found k es (entry e later) = verdict-found (k + 1) (set es k e) later

pub table-verdict : (rules : Rules) (s : List ℕ) → verdict_from 0 (items_of rules s) ≡ verdict_of (table_of rules s)
unfolding table_of empty_table refused_table
table-verdict rules s = verdict-found 0 no_entries (items_of rules s)

-- what a verdict says of its table
pub verdict-refusal : (t : Result Table TableFault) → refusal_in (verdict_of t) ≡ refusal_in t
unfolding verdict_of
verdict-refusal (Ok t) = refl
verdict-refusal (Err f) = refl

pub verdict-line : (t : Result Table TableFault) → line_in (verdict_of t) ≡ line_in t
unfolding verdict_of
verdict-line (Ok t) = refl
verdict-line (Err f) = refl

pub verdict-column : (t : Result Table TableFault) → column_in (verdict_of t) ≡ column_in t
unfolding verdict_of
verdict-column (Ok t) = refl
verdict-column (Err f) = refl

pub verdict-good : (t : Result Table TableFault) {n : ℕ} → Ok n ≡ verdict_of t → (refusal_in t ≡ 0) × (n ≡ count_in t)
unfolding verdict_of
verdict-good (Ok t) e = (refl, cc)
verdict-good (Err f) e = cc

-- one entry more
added-in : (k i : ℕ) (es : List Entry) (e : Entry) → k < length es
    → entry_in (Ok (good (k + 1) (set es k e))) i ≡ cond (eqb k i) (Ok e) (entry_in (Ok (good k es)) i)
unfolding entry_in
added-in k i es e h = go (eqb k i) refl
  where
    go : (t : Bool) → eqb k i ≡ t
        → cond {A = Result Entry Refusal} (ltb i (k + 1)) (Ok (get_or (set es k e) i blank_entry)) (Err NoSuchEntry)
        ≡ cond t (Ok e) (cond (ltb i k) (Ok (get_or es i blank_entry)) (Err NoSuchEntry))
    go true p =
        let q : k ≡ i = eqb-true k i p in
        rw (← q, lt-ltb k (k + 1) (omega arith), get_or-set_same es k e blank_entry h)
    go false p = elim (dec_le k i) [ yes j ↦ rw (le-ltb i k j, le-ltb i (k + 1) (past j)) | no j ↦ rw (lt-ltb i k (lt_of_not-le j), lt-ltb i (k + 1) (below j), get_or-set_other es k i e blank_entry (λ q. eqb-false k i p (sym q))) ]
      where
        past : k ≤ i → k + 1 ≤ i
        past j = let d = eqb-false k i p in omega (arith, d)

        below : (k ≤ i → ⊥) → i < k + 1
        below j = let l = lt_of_not-le j in omega arith

pub entry_found : (rules : Rules) (s : List ℕ) (m k i : ℕ) (es : List Entry) (items : Items) → length es ≡ max_entries → SoundItems rules s m k items
    → entry_in (with_items (good k es) items) i ≡ entry_from (entry_in (Ok (good k es)) i) k i items
unfolding with_items with_entry entry_from entry_in refused_table
entry_found rules s m k i es done full sound = refl
entry_found rules s m k i es (fault refusal line column) full sound = refl
entry_found rules s m k i es (setting line name value later) full sound = entry_found rules s (line + 1) k i es later full sound.2
entry_found rules s m k i es (entry e later) full sound =
    entry_found rules s (e.line + 1) (k + 1) i (set es k e) later (simp length-set full) sound.2
    ∙ rw (added-in k i es e (omega (arith, full, sound.1)))

pub table-entry : (rules : Rules) (s : List ℕ) (i : ℕ) → entry_in (table_of rules s) i ≡ entry_from (Err NoSuchEntry) 0 i (items_of rules s)
unfolding table_of empty_table refused_table no_entries entry_in
table-entry rules s i = entry_found rules s 1 0 i no_entries (items_of rules s) refl (items-sound rules s) ∙ rw (none i)
  where
    none : (i : ℕ) → entry_in (Ok (good 0 no_entries)) i ≡ Err NoSuchEntry
    none i = rw (le-ltb i 0 (omega arith))
