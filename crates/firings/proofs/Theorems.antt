-- What a caller may rely on of the winter list, with no search in it.
--   firings-exact: a minute is in an entry's list exactly if it lies in the span and `due` says yes
--   firings-rise: the list rises, so each minute stands there once
--   merged-exact: a minute and an entry are in a table's list exactly if the minute lies in the span and `due` says yes of the entry
--   merged-rise: the list rises by minute and then entry, so each pair stands there once
--   merged-split: a list may be made in two pieces, up to a minute and after it
--   firings-few, merged-few: a count is a 32-bit number
--   merged-runs: the first numbers of both runs, as many as are answered, are the minutes and entries of the list's first firings; that is all of
--     them, or as many as there is room for where more remain
--   listed-given: so a list is given only where the table is good and both minutes are on the calendar
--   merged-lengths: the runs keep their lengths
--   minute-few: a minute has at most as many firings as the table has entries
--   piece-ends: where more remain, those before the last minute are just the firings up to the minute before it
--   merged-room: the room is the shorter run, as long as a 32-bit number counts its places
--   firings-kept, merged-kept: a refused call changes no number of a run
--   Extremes uses these at their edges: entry-list-ends, entry-list-rises, table-list-ends, table-list-rises, split-ends, runs-all, piece-least
--   ListAnswers has an equation for each way that an answer can go: list-refused, list-first-off, list-last-off, list-at-boot, list-by-time, table-bad, table-first-off,
--     table-last-off, table-listed, fits_all, fits-some
-- Assumes nothing.
use Rattle.std.specs.Prelude.{Result, Ok}
use mathlib.Core.Path.{◌≡◌, refl, sym, ap, subst, ◌∙◌}
use mathlib.Core.Bool.{Bool, true, false, cond, true≢false}
use mathlib.Core.Logic.{inl, inr}
use mathlib.Core.List.{List, [], ◌∷◌, map}
use Prim.Native.Nat.{ℕ, zero, suc, ◌+◌, ◌-◌, ◌*◌, ◌/◌, ◌%◌, ◌≤◌, ◌<◌}
use native.Mathlib.Nat.{lt_of_not-le}
use native.Mathlib.Decide.{dec_le}
use native.Mathlib.Omega.{arith}
use lib.ListN.{get_or}
use lib.Dec.{ltb}
use borrow.Author.Tests.{le-leb, lt-ltb, ltb-true}
use Rattle.std.specs.Prelude.{Result, Ok, Err}
use Rattle.refusal.specs.declared.Refusal.{Refusal}
use Rattle.refusal.specs.declared.Refusal.TheVariants.{NoSuchEntry}
use Rattle.refusal.proofs.Numbers.{number-small}
use Rattle.calendar.specs.Dates.{last_minute}
use Rattle.line.specs.declared.Rules.{Rules}
use Rattle.crontab.specs.declared.entry.Entry.{Entry}
use Rattle.crontab.specs.declared.table.Table.{Table}
use Rattle.crontab.specs.Tables.{blank_entry, table_of, entry_in, count_in, refusal_in, table_entries}
use Rattle.crontab.specs.declared.table.TableFault.{TableFault}
use Rattle.crontab.specs.Firings.{fires_at, due_of, due_answer, due_in}
use Rattle.crontab.proofs.Theorems.{table-sound}
use Rattle.octets.specs.Passing.{passing, passing_up_to}
use Rattle.firings.specs.Lists.{Firing, firings_of, fires_in, merged_up_to, merged_of}
use Rattle.firings.specs.Keys.{firing_of, is_firing}
use Rattle.firings.specs.declared.Filled.{Filled}
use Rattle.firings.specs.declared.Filled.TheVariants.{All}
use Rattle.firings.specs.Calls.{room_in, merged_in}
use Rattle.firings.specs.Rising.{Among, Rises, Earlier, Exactly, Runs}
use Rattle.firings.proofs.Waiting.{firing-is, firing-entry}
use Rattle.firings.proofs.Keys.{merged-keys}
pub use Rattle.firings.proofs.Counts.{firings-few, firings-kept, merged-few, merged-kept, merged-room}
pub use Rattle.firings.proofs.Runs.{merged-runs, merged-lengths}
pub use Rattle.firings.proofs.Pieces.{merged-split, minute-few, PieceEnds, piece-ends, minutes-left, entries-left, minutes-right, entries-right}

-- ---- numbers that pass

module _ (p : ℕ → Bool) where
  among-is : (n a x : ℕ) → Among x (passing p n a) → (a ≤ x) × (x < a + n) × (p x ≡ true)
  unfolding passing
  among-is zero a x m = absurd m
  among-is (suc n) a x m = go (p a) refl m (among-is n (suc a) x)
    where
      go : (b : Bool) → p a ≡ b → Among x (cond b (a ∷ passing p n (suc a)) (passing p n (suc a)))
          → (Among x (passing p n (suc a)) → (suc a ≤ x) × (x < suc a + n) × (p x ≡ true)) → (a ≤ x) × (x < a + suc n) × (p x ≡ true)
      go true e (inl q) later = (omega arith, omega arith, rw q e)
      go true e (inr m) later = let (u, v, w) = later m in (omega arith, omega arith, w)
      go false e m later = let (u, v, w) = later m in (omega arith, omega arith, w)

  is_among : (n a x : ℕ) → a ≤ x → x < a + n → p x ≡ true → Among x (passing p n a)
  unfolding passing
  is_among zero a x h k t = absurd (omega arith)
  is_among (suc n) a x h k t = elim (dec_le x a) [ yes l ↦ here (omega arith) (p a) refl | no l ↦ behind (p a) (is_among n (suc a) x (omega (arith, lt_of_not-le l)) (omega arith) t) ]
    where
      here : x ≡ a → (b : Bool) → p a ≡ b → Among x (cond b (a ∷ passing p n (suc a)) (passing p n (suc a)))
      here q true e = inl q
      here q false e = absurd (true≢false (sym t ∙ rw q e))

      behind : (b : Bool) → Among x (passing p n (suc a)) → Among x (cond b (a ∷ passing p n (suc a)) (passing p n (suc a)))
      behind true m = inr m
      behind false m = m

  passing-rises : (n a : ℕ) → Rises (λ x y. x < y) (passing p n a)
  unfolding passing
  passing-rises zero a = tt
  passing-rises (suc n) a = go (p a) (passing-rises n (suc a))
    where
      go : (b : Bool) → Rises (λ x y. x < y) (passing p n (suc a)) → Rises (λ x y. x < y) (cond b (a ∷ passing p n (suc a)) (passing p n (suc a)))
      go true r = ((λ y m. let (u, v, w) = among-is n (suc a) y m in omega arith), r)
      go false r = r

  up-exact : (a b x : ℕ) → Exactly (Among x (passing_up_to p b a)) ((a ≤ x) × (x ≤ b) × (p x ≡ true))
  unfolding passing_up_to
  up-exact a b x = (
    (λ m. let (u, v, w) = among-is (b + 1 - a) a x m in (u, omega arith, w)),
    (λ (u, v, w). is_among (b + 1 - a) a x u (omega arith) w),
  )

-- ---- of an entry

due-yes : (e : Entry) (m : ℕ) → m ≤ last_minute → Exactly (fires_at e m ≡ true) (due_of e m ≡ Ok true)
unfolding due_of
due-yes e m h = rw (le-leb m last_minute h) (go (fires_at e m))
  where
    go : (b : Bool) → Exactly (b ≡ true) (◌≡◌ {A = Result Bool Refusal} (Ok b) (Ok true))
    go true = ((λ _. refl), (λ _. refl))
    go false = ((λ z. absurd (true≢false (sym z))), (λ z. absurd (let y : ◌≡◌ {A = ℕ} 0 1 = cc in omega arith)))

pub firings-exact : (t : Result Table TableFault) (i : ℕ) (e : Entry) → entry_in t i ≡ Ok e → (a b m : ℕ) → b ≤ last_minute
    → Exactly (Among m (firings_of e a b)) ((a < m) × (m ≤ b) × (due_in t i m ≡ Ok true))
unfolding firings_of due_in due_answer
firings-exact t i e f a b m h =
    rw f (
      (λ x. let (u, v, w) = (up-exact (fires_at e) (a + 1) b m).0 x in (omega arith, v, (due-yes e m (omega arith)).0 w)),
      (λ (u, v, w). (up-exact (fires_at e) (a + 1) b m).1 (omega arith, v, (due-yes e m (omega arith)).1 w)),
    )

pub firings-rise : (e : Entry) (a b : ℕ) → Rises (λ x y. x < y) (firings_of e a b)
unfolding firings_of passing_up_to
firings-rise e a b = passing-rises (fires_at e) (b + 1 - (a + 1)) (a + 1)

-- ---- of a table

-- lists that are made from others
map-among : (l : List ℕ) (f : Firing) → Among f (map firing_of l) → (k : ℕ) × Among k l × (f ≡ firing_of k)
map-among [] f m = absurd m
map-among (k ∷ l) f (inl e) = (k, inl refl, e)
map-among (k ∷ l) f (inr m) = let (j, n, e) = map-among l f m in (j, inr n, e)

among-map : (l : List ℕ) (k : ℕ) → Among k l → Among (firing_of k) (map firing_of l)
among-map [] k m = absurd m
among-map (j ∷ l) k (inl e) = inl (ap firing_of e)
among-map (j ∷ l) k (inr m) = inr (among-map l k m)

-- the order of keys is that of firings
keys-order : (j k : ℕ) → j < k → Earlier (firing_of j) (firing_of k)
unfolding firing_of
keys-order j k h = elim (dec_le (k / 512) (j / 512)) [ yes l ↦ inr (omega arith, omega arith) | no l ↦ inl (lt_of_not-le l) ]

map-rises : (l : List ℕ) → Rises (λ x y. x < y) l → Rises Earlier (map firing_of l)
map-rises [] r = tt
map-rises (k ∷ l) r = ((λ f m. let (j, n, e) = map-among l f m in rw e (keys-order k j (r.0 j n))), map-rises l r.1)

key-parts : (k : ℕ) {m i : ℕ} → record { minute = m; entry = i } ≡ firing_of k → (m ≡ k / 512) × (i ≡ k % 512)
unfolding firing_of
key-parts k e = (ap (λ (f : Firing). f.minute) e, ap (λ (f : Firing). f.entry) e)

key_of : (m i : ℕ) → i < 512 → firing_of (m * 512 + i) ≡ record { minute = m; entry = i }
unfolding firing_of
key_of m i h = let p : (m * 512 + i) / 512 ≡ m = omega arith in let q : (m * 512 + i) % 512 ≡ i = omega arith in rw (p, q)

module _ (fires : ℕ → ℕ → Bool) (count : ℕ) (few : count ≤ 512) (a b m i : ℕ) where
  in-merged : Exactly (Among (record { minute = m; entry = i }) (merged_up_to fires count b (a + 1))) ((a < m) × (m ≤ b) × (i < count) × (fires i m ≡ true))
  in-merged = rw (← merged-keys fires count few b (a + 1)) (first, second)
    where
      keys : List ℕ
      keys = passing_up_to (is_firing fires count) (b * 512 + 511) ((a + 1) * 512)

      first : Among (record { minute = m; entry = i }) (map firing_of keys) → (a < m) × (m ≤ b) × (i < count) × (fires i m ≡ true)
      first x =
          let (k, n, e) = map-among keys (record { minute = m; entry = i }) x in
          let (p, q) = key-parts k e in
          let (u, v, w) = (up-exact (is_firing fires count) ((a + 1) * 512) (b * 512 + 511) k).0 n in
          let l : i < count = rw (← q) at (firing-entry fires count k w) in
          (omega arith, omega arith, l, rw p (sym (firing-is fires count k i (sym q) l) ∙ w))

      second : (a < m) × (m ≤ b) × (i < count) × (fires i m ≡ true) → Among (record { minute = m; entry = i }) (map firing_of keys)
      second (u, v, l, w) =
          let p : (m * 512 + i) / 512 ≡ m = omega arith in
          let q : (m * 512 + i) % 512 ≡ i = omega arith in
          let t : is_firing fires count (m * 512 + i) ≡ true = firing-is fires count (m * 512 + i) i q l ∙ rw p w in
          rw (← key_of m i (omega arith)) (among-map keys (m * 512 + i) ((up-exact (is_firing fires count) ((a + 1) * 512) (b * 512 + 511) (m * 512 + i)).1 (omega arith, omega arith, t)))

-- due by its number in a good table, and no other is
due_in_lem : (t : Result Table TableFault) (i m : ℕ) → refusal_in t ≡ 0 → m ≤ last_minute → Exactly ((i < count_in t) × (fires_in (table_entries t) i m ≡ true)) (due_in t i m ≡ Ok true)
unfolding due_in due_answer entry_in fires_in
due_in_lem (Err f) i m good h = absurd (let small = number-small f.refusal in omega (arith, small.0, good))
due_in_lem (Ok x) i m good h = go (ltb i x.count) refl
  where
    e : Entry
    e = get_or x.entries i blank_entry

    go : (b : Bool) → ltb i x.count ≡ b
        → Exactly ((i < x.count) × (fires_at e m ≡ true)) (due_answer (cond b (Ok e) (Err NoSuchEntry)) m ≡ Ok true)
    go true l = ((λ (_, w). (due-yes e m h).0 w), (λ z. (ltb-true i x.count l, (due-yes e m h).1 z)))
    go false l = ((λ (k, _). absurd (true≢false (sym (lt-ltb i x.count k) ∙ l))), (λ z. absurd (let y : ◌≡◌ {A = ℕ} 0 1 = cc in omega arith)))

module _ (rules : Rules) (s : List ℕ) (a b : ℕ) where
  pub merged-exact : refusal_in (table_of rules s) ≡ 0 → (m i : ℕ) → b ≤ last_minute
      → Exactly (Among (record { minute = m; entry = i }) (merged_of (table_of rules s) a b)) ((a < m) × (m ≤ b) × (due_in (table_of rules s) i m ≡ Ok true))
  unfolding merged_of
  merged-exact good m i h = (
    (λ x. let (u, v, l, w) = both.0 x in (u, v, (due_in_lem t i m good (omega arith)).0 (l, w))),
    (λ (u, v, z). let (l, w) = (due_in_lem t i m good (omega arith)).1 z in both.1 (u, v, l, w)),
  )
    where
      t : Result Table TableFault
      t = table_of rules s

      both : Exactly (Among (record { minute = m; entry = i }) (merged_up_to (fires_in (table_entries t)) (count_in t) b (a + 1))) ((a < m) × (m ≤ b) × (i < count_in t) × (fires_in (table_entries t) i m ≡ true))
      both = in-merged (fires_in (table_entries t)) (count_in t) (table-sound rules s).few a b m i

  pub merged-rise : Rises Earlier (merged_of (table_of rules s) a b)
  unfolding merged_of passing_up_to
  merged-rise =
      let t = table_of rules s in
      rw (← merged-keys (fires_in (table_entries t)) (count_in t) (table-sound rules s).few b (a + 1))
      (map-rises (passing_up_to (is_firing (fires_in (table_entries t)) (count_in t)) (b * 512 + 511) ((a + 1) * 512)) (passing-rises (is_firing (fires_in (table_entries t)) (count_in t)) (b * 512 + 511 + 1 - (a + 1) * 512) ((a + 1) * 512)))

-- `merged-runs` used: where all is listed, the table is good and both minutes are on the calendar
pub listed-given : (t : Result Table TableFault) (a b n : ℕ) (minutes entries : List ℕ) → (merged_in t a b minutes entries).answer ≡ Ok (All n)
    → (refusal_in t ≡ 0) × (a ≤ 4223371679) × (b ≤ 4223371679)
unfolding room_in
listed-given t a b n minutes entries e =
    let s = merged_in t a b minutes entries in
    let given = (subst (λ (x : Result Filled Refusal). Runs t a b (room_in minutes entries) x s.minutes s.entries) e (merged-runs t a b minutes entries)).0 in
    (given.good, given.from, given.to)
