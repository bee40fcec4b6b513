-- The theorems of lists used at their edges: entry 511, the first and the last minute of the calendar, a piece of 513 firings of 512 entries. An added
-- hypothesis, or a part less of a conclusion, breaks one of these.
-- Assumes nothing.
use Rattle.std.specs.Prelude.{Result, Ok}
use mathlib.Core.Path.{◌≡◌, refl, subst}
use mathlib.Core.Logic.{inl}
use mathlib.Core.List.{List, [], ◌∷◌, ◌++◌}
use Prim.Native.Nat.{ℕ, ◌-◌, ◌≤◌, ◌<◌}
use native.Mathlib.Omega.{arith}
use lib.ListN.{length, take, get_or}
use Rattle.std.specs.Prelude.{Ok, true, Result}
use Rattle.refusal.specs.declared.Refusal.{Refusal}
use Rattle.octets.specs.Passing.{passing}
use Rattle.line.specs.declared.Rules.{Rules}
use Rattle.crontab.specs.declared.entry.Entry.{Entry}
use Rattle.crontab.specs.declared.table.Table.{Table}
use Rattle.crontab.specs.Tables.{table_of, entry_in, count_in, refusal_in}
use Rattle.crontab.specs.declared.table.TableFault.{TableFault}
use Rattle.crontab.specs.Firings.{due_in}
use Rattle.firings.specs.declared.Filled.{Filled}
use Rattle.firings.specs.declared.Filled.TheVariants.{All, More}
use Rattle.firings.specs.Lists.{Firing, firings_of, at_minute, entries_from, merged_over, merged_up_to, merged_of}
use Rattle.firings.specs.Calls.{minutes_of, entries_of, room_in, merged_in}
use Rattle.firings.specs.Rising.{Among, Rises, Earlier, Runs}
use Rattle.firings.proofs.Theorems.{firings-exact, firings-rise, merged-exact, merged-rise, merged-split, merged-runs, PieceEnds, piece-ends}

-- ---- of an entry: the calendar's first minute that a list can have, and its last, both ways; and two in a row

pub entry-list-ends : (t : Result Table TableFault) (e : Entry) → entry_in t 511 ≡ Ok e
    → (due_in t 511 1 ≡ Ok true → Among 1 (firings_of e 0 4223371679))
    × (due_in t 511 4223371679 ≡ Ok true → Among 4223371679 (firings_of e 4223371678 4223371679))
    × (Among 4223371679 (firings_of e 0 4223371679) → due_in t 511 4223371679 ≡ Ok true)
    × ((m : ℕ) → Among m (firings_of e 0 4223371679) → (0 < m) × (m ≤ 4223371679))
entry-list-ends t e f = (
  (λ d. (firings-exact t 511 e f 0 4223371679 1 (omega arith)).1 (omega arith, omega arith, d)),
  (λ d. (firings-exact t 511 e f 4223371678 4223371679 4223371679 (omega arith)).1 (omega arith, omega arith, d)),
  (λ x. ((firings-exact t 511 e f 0 4223371679 4223371679 (omega arith)).0 x).2),
  (λ m x. let (u, v, w) = (firings-exact t 511 e f 0 4223371679 m (omega arith)).0 x in (u, v)),
)

pub entry-list-rises : (e : Entry) (m n : ℕ) (later : List ℕ) → firings_of e 0 4223371679 ≡ m ∷ n ∷ later → m < n
entry-list-rises e m n later is = (subst (λ (l : List ℕ). Rises (λ x y. x < y) l) is (firings-rise e 0 4223371679)).0 n (inl refl)

-- ---- of a table, the same

module _ (rules : Rules) (s : List ℕ) where
  abbrev t : Result Table TableFault
  t = table_of rules s

  pub table-list-ends : refusal_in t ≡ 0
      → (due_in t 511 1 ≡ Ok true → Among (record { minute = 1; entry = 511 }) (merged_of t 0 4223371679))
      × (due_in t 511 4223371679 ≡ Ok true → Among (record { minute = 4223371679; entry = 511 }) (merged_of t 4223371678 4223371679))
      × (Among (record { minute = 4223371679; entry = 511 }) (merged_of t 0 4223371679) → due_in t 511 4223371679 ≡ Ok true)
      × ((m i : ℕ) → Among (record { minute = m; entry = i }) (merged_of t 0 4223371679) → (0 < m) × (m ≤ 4223371679))
  table-list-ends good = (
    (λ d. (merged-exact rules s 0 4223371679 good 1 511 (omega arith)).1 (omega arith, omega arith, d)),
    (λ d. (merged-exact rules s 4223371678 4223371679 good 4223371679 511 (omega arith)).1 (omega arith, omega arith, d)),
    (λ x. ((merged-exact rules s 0 4223371679 good 4223371679 511 (omega arith)).0 x).2),
    (λ m i x. let (u, v, w) = (merged-exact rules s 0 4223371679 good m i (omega arith)).0 x in (u, v)),
  )

  pub table-list-rises : (f g : Firing) (later : List Firing) → merged_of t 0 4223371679 ≡ f ∷ g ∷ later → Earlier f g
  table-list-rises f g later is = (subst (λ (l : List Firing). Rises Earlier l) is (merged-rise rules s 0 4223371679)).0 g (inl refl)

-- ---- pieces

-- at the span's first minute, and at its last
pub split-ends : (t : Result Table TableFault)
    → (merged_of t 0 4223371679 ≡ merged_of t 0 0 ++ merged_of t 0 4223371679)
    × (merged_of t 0 4223371679 ≡ merged_of t 0 4223371679 ++ merged_of t 4223371679 4223371679)
split-ends t = (merged-split t 0 0 4223371679 (omega arith) (omega arith), merged-split t 0 4223371679 4223371679 (omega arith) (omega arith))

-- what each answer says of the runs, all of it
pub runs-all : (t : Result Table TableFault) (n : ℕ) (minutes entries : List ℕ)
    → let s = merged_in t 0 4223371679 minutes entries in
    let list = merged_of t 0 4223371679 in
    (s.answer ≡ Ok (All n)
    → (refusal_in t ≡ 0) × (n ≡ length list) × (n ≤ room_in minutes entries) × (take n s.minutes ≡ take n (minutes_of list)) × (take n s.entries ≡ take n (entries_of list)))
    × (s.answer ≡ Ok (More n)
    → (refusal_in t ≡ 0) × (n < length list) × (n ≡ room_in minutes entries) × (take n s.minutes ≡ take n (minutes_of list)) × (take n s.entries ≡ take n (entries_of list)))
runs-all t n minutes entries = (
  (λ e. let (given, first, all, fits) = runs (Ok (All n)) e in (given.good, all, fits, first.minutes-are, first.entries-are)),
  (λ e. let (given, first, some, full) = runs (Ok (More n)) e in (given.good, some, full, first.minutes-are, first.entries-are)),
)
  where
    runs : (x : Result Filled Refusal) → (merged_in t 0 4223371679 minutes entries).answer ≡ x
        → let s = merged_in t 0 4223371679 minutes entries in Runs t 0 4223371679 (room_in minutes entries) x s.minutes s.entries
    runs x e =
        let s = merged_in t 0 4223371679 minutes entries in
        subst (λ (y : Result Filled Refusal). Runs t 0 4223371679 (room_in minutes entries) y s.minutes s.entries) e (merged-runs t 0 4223371679 minutes entries)

-- one more than the entries of a full table are enough for a piece
pub piece-least : (t : Result Table TableFault) (k : ℕ)
    → let minutes = minutes_of (merged_of t 0 4223371679) in
    let last = get_or minutes 512 0 in
    count_in t ≡ 512 → 513 ≤ length (merged_of t 0 4223371679)
    → k ≤ 513 → ((j : ℕ) → k ≤ j → j < 513 → get_or minutes j 0 ≡ last) → (0 < k → get_or minutes (k - 1) 0 ≡ last → ⊥)
    → (1 < last) × (last ≤ 4223371679) × (k ≡ length (merged_of t 0 (last - 1)))
    × (merged_of t 0 4223371679 ≡ merged_of t 0 (last - 1) ++ merged_of t (last - 1) 4223371679)
piece-least t k full some within after other =
    let p = piece-ends t 0 4223371679 513 k (omega (arith, full)) some within after other in
    (p.onward, p.within, p.count, p.split)

abbrev nothing : Result Table TableFault
nothing = Ok (record { count = 0; entries = [] })

-- a piece that ends at once, or beyond b, or with another count of a table without entries
pub not_piece : (PieceEnds nothing 0 5 0 1 → ⊥) × (PieceEnds nothing 0 5 0 6 → ⊥) × (PieceEnds nothing 0 5 1 3 → ⊥)
unfolding merged_of merged_up_to merged_over at_minute entries_from passing
not_piece = ((λ p. omega (arith, p.onward)), (λ p. omega (arith, p.within)), (λ p. omega (arith, p.count)))
