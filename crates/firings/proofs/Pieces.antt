-- A list made in pieces: it splits at any minute, a minute has few firings, and where a piece ends that has no room for all.
-- Assumes nothing.
use mathlib.Core.Path.{◌≡◌, refl, sym, ap, ◌∙◌}
use mathlib.Core.Bool.{Bool}
use mathlib.Core.List.{List, [], ◌∷◌, ◌++◌, map, append_assoc}
use Prim.Native.Nat.{ℕ, zero, suc, ◌+◌, ◌-◌, ◌≤◌, ◌<◌}
use native.Mathlib.Nat.{lt_of_not-le}
use native.Mathlib.Decide.{dec_le}
use native.Mathlib.Omega.{arith}
use lib.ListN.{length, get_or, length-append}
use Rattle.std.specs.Prelude.{Result}
use Rattle.octets.specs.Passing.{passing}
use Rattle.crontab.specs.declared.table.Table.{Table}
use Rattle.crontab.specs.declared.table.TableFault.{TableFault}
use Rattle.firings.specs.Lists.{Firing, at_minute, entries_from, merged_over, fires_in, merged_up_to, merged_of}
use Rattle.firings.specs.Calls.{minutes_of, entries_of}
use Rattle.firings.proofs.Counts.{passing-short}
use Rattle.crontab.specs.Tables.{count_in, table_entries}

-- ---- two pieces

over-append : (fires : ℕ → ℕ → Bool) (count n k m : ℕ) → merged_over fires count (n + k) m ≡ merged_over fires count n m ++ merged_over fires count k (m + n)
unfolding merged_over
over-append fires count zero k m = let e : zero + k ≡ k = omega arith in let f : m + zero ≡ m = omega arith in rw (e, f)
over-append fires count (suc n) k m =
    let e : suc n + k ≡ suc (n + k) = omega arith in
    let f : m + suc n ≡ suc m + n = omega arith in
    rw (e, f, over-append fires count n k (suc m)) (sym (append_assoc (at_minute m (entries_from fires count m 0)) (merged_over fires count n (suc m)) (merged_over fires count k (suc m + n))))

pub merged-split : (t : Result Table TableFault) (a m b : ℕ) → a ≤ m → m ≤ b → merged_of t a b ≡ merged_of t a m ++ merged_of t m b
unfolding merged_of merged_up_to
merged-split t a m b h k =
    let e : b + 1 - (a + 1) ≡ (m + 1 - (a + 1)) + (b + 1 - (m + 1)) = omega arith in
    let f : a + 1 + (m + 1 - (a + 1)) ≡ m + 1 = omega arith in
    rw e (over-append (fires_in (table_entries t)) (count_in t) (m + 1 - (a + 1)) (b + 1 - (m + 1)) (a + 1) ∙ rw f)

-- ---- the numbers of two lists, one after the other

module _ (g : Firing → ℕ) where
  left : (p q : List Firing) (i : ℕ) → i < length p → get_or (map g (p ++ q)) i 0 ≡ get_or (map g p) i 0
  left [] q i h = absurd (omega arith)
  left (f ∷ p) q zero h = refl
  left (f ∷ p) q (suc i) h = left p q i (omega arith)

  right : (p q : List Firing) (i : ℕ) → length p ≤ i → get_or (map g (p ++ q)) i 0 ≡ get_or (map g q) (i - length p) 0
  right [] q i h = let e : i - 0 ≡ i = omega arith in rw e
  right (f ∷ p) q zero h = absurd (omega arith)
  right (f ∷ p) q (suc i) h = let e : suc i - length (f ∷ p) ≡ i - length p = omega arith in rw e (right p q i (omega arith))

pub minutes-left : (p q : List Firing) (i : ℕ) → i < length p → get_or (minutes_of (p ++ q)) i 0 ≡ get_or (minutes_of p) i 0
unfolding minutes_of
minutes-left = left (λ f. f.minute)

pub minutes-right : (p q : List Firing) (i : ℕ) → length p ≤ i → get_or (minutes_of (p ++ q)) i 0 ≡ get_or (minutes_of q) (i - length p) 0
unfolding minutes_of
minutes-right = right (λ f. f.minute)

pub entries-left : (p q : List Firing) (i : ℕ) → i < length p → get_or (entries_of (p ++ q)) i 0 ≡ get_or (entries_of p) i 0
unfolding entries_of
entries-left = left (λ f. f.entry)

pub entries-right : (p q : List Firing) (i : ℕ) → length p ≤ i → get_or (entries_of (p ++ q)) i 0 ≡ get_or (entries_of q) (i - length p) 0
unfolding entries_of
entries-right = right (λ f. f.entry)

-- ---- the minutes of a list lie in its span

abbrev EachAt : (ℕ → Type 0) → List Firing → Type 0
EachAt P [] = Unit {0}
EachAt P (f ∷ l) = P f.minute × EachAt P l

each_append : (P : ℕ → Type 0) (l k : List Firing) → EachAt P l → EachAt P k → EachAt P (l ++ k)
each_append P [] k h j = j
each_append P (f ∷ l) k h j = (h.0, each_append P l k h.1 j)

each-so : (P Q : ℕ → Type 0) → ((m : ℕ) → P m → Q m) → (l : List Firing) → EachAt P l → EachAt Q l
each-so P Q so [] h = tt
each-so P Q so (f ∷ l) h = (so f.minute h.0, each-so P Q so l h.1)

each-minute : (P : ℕ → Type 0) (l : List Firing) (i : ℕ) → i < length l → EachAt P l → P (get_or (minutes_of l) i 0)
unfolding minutes_of
each-minute P [] i h e = absurd (omega arith)
each-minute P (f ∷ l) zero h e = e.0
each-minute P (f ∷ l) (suc i) h e = each-minute P l i (omega arith) e.1

at-minute : (m : ℕ) (es : List ℕ) → EachAt (λ x. x ≡ m) (at_minute m es)
unfolding at_minute
at-minute m [] = tt
at-minute m (e ∷ es) = (refl, at-minute m es)

over-within : (fires : ℕ → ℕ → Bool) (count n m : ℕ) → EachAt (λ x. (m ≤ x) × (x < m + n)) (merged_over fires count n m)
unfolding merged_over
over-within fires count zero m = tt
over-within fires count (suc n) m =
    each_append (λ x. (m ≤ x) × (x < m + suc n)) (at_minute m (entries_from fires count m 0)) (merged_over fires count n (suc m))
    (each-so (λ x. x ≡ m) (λ x. (m ≤ x) × (x < m + suc n)) (λ x e. omega (arith, e)) (at_minute m (entries_from fires count m 0)) (at-minute m (entries_from fires count m 0)))
    (each-so (λ x. (suc m ≤ x) × (x < suc m + n)) (λ x. (m ≤ x) × (x < m + suc n)) (λ x h. (omega (arith, h.0), omega (arith, h.1))) (merged_over fires count n (suc m)) (over-within fires count n (suc m)))

minute-within : (t : Result Table TableFault) (a b i : ℕ) → i < length (merged_of t a b) → (a < get_or (minutes_of (merged_of t a b)) i 0) × (get_or (minutes_of (merged_of t a b)) i 0 ≤ b)
unfolding merged_of merged_up_to
minute-within t a b i h =
    let w = each-minute (λ x. (a + 1 ≤ x) × (x < a + 1 + (b + 1 - (a + 1)))) (merged_over (fires_in (table_entries t)) (count_in t) (b + 1 - (a + 1)) (a + 1)) i h
    (over-within (fires_in (table_entries t)) (count_in t) (b + 1 - (a + 1)) (a + 1)) in
    (omega (arith, w.0), omega (arith, w.0, w.1))

-- ---- a minute has at most as many firings as there are entries

length_at : (m : ℕ) (es : List ℕ) → length (at_minute m es) ≡ length es
unfolding at_minute
length_at m [] = refl
length_at m (e ∷ es) = ap suc (length_at m es)

pub minute-few : (t : Result Table TableFault) (m : ℕ) → length (merged_of t m (m + 1)) ≤ count_in t
unfolding merged_of merged_up_to merged_over at_minute entries_from
minute-few t m =
    let one : m + 1 + 1 - (m + 1) ≡ 1 = omega arith in
    let es = passing (λ e. fires_in (table_entries t) e (m + 1)) (count_in t - 0) 0 in
    rw one (omega (arith, length-append (at_minute (m + 1) es) [], length_at (m + 1) es, passing-short (λ e. fires_in (table_entries t) e (m + 1)) (count_in t - 0) 0))

-- ---- where a piece ends

-- Of the first firings of a list that has more, k come before those of the last minute among them.
pub record PieceEnds (t : Result Table TableFault) (a b k last : ℕ) : Type 0 where
  pub onward : a + 1 < last
  pub within : last ≤ b
  pub count : k ≡ length (merged_of t a (last - 1))
  pub split : merged_of t a b ≡ merged_of t a (last - 1) ++ merged_of t (last - 1) b

module _ (t : Result Table TableFault) (a b n k : ℕ) (few : count_in t < n) (some : n ≤ length (merged_of t a b)) where
  abbrev minutes : List ℕ
  minutes = minutes_of (merged_of t a b)

  abbrev last : ℕ
  last = get_or minutes (n - 1) 0

  span : (a < last) × (last ≤ b)
  span = minute-within t a b (n - 1) (omega arith)

  -- the last of them is among the firings up to its own minute
  up-to : n ≤ length (merged_of t a last)
  up-to = elim (dec_le n (length (merged_of t a last))) [ yes h ↦ h | no h ↦ absurd (late (lt_of_not-le h)) ]
    where
      parts : merged_of t a b ≡ merged_of t a last ++ merged_of t last b
      parts = merged-split t a last b (omega (arith, span.0)) span.1

      sizes : length (merged_of t a b) ≡ length (merged_of t a last) + length (merged_of t last b)
      sizes = ap length parts ∙ length-append (merged_of t a last) (merged_of t last b)

      late : length (merged_of t a last) < n → ⊥
      late h =
          let e : last ≡ get_or (minutes_of (merged_of t last b)) (n - 1 - length (merged_of t a last)) 0 =
          ap (λ (l : List Firing). get_or (minutes_of l) (n - 1) 0) parts ∙ minutes-right (merged_of t a last) (merged_of t last b) (n - 1) (omega arith) in
          omega (arith, (minute-within t last b (n - 1 - length (merged_of t a last)) (omega (arith, sizes))).0, e)

  abbrev before : List Firing
  before = merged_of t a (last - 1)

  abbrev rest : List Firing
  rest = merged_of t (last - 1) b

  parts : merged_of t a b ≡ before ++ rest
  parts = merged-split t a (last - 1) b (omega (arith, span.0)) (omega (arith, span.1))

  -- of n firings some are before the last minute, which has only few
  onward : a + 1 < last
  onward =
      let one : last - 1 + 1 ≡ last = omega (arith, span.0) in
      let two : merged_of t a last ≡ before ++ merged_of t (last - 1) last = merged-split t a (last - 1) last (omega (arith, span.0)) (omega arith) in
      let small : length (merged_of t (last - 1) last) ≤ count_in t = rw one at (minute-few t (last - 1)) in
      let all : length (merged_of t a last) ≡ length before + length (merged_of t (last - 1) last) = ap length two ∙ length-append before (merged_of t (last - 1) last) in
      let first = minute-within t a (last - 1) 0 (omega (arith, up-to, all, small)) in
      omega (arith, first.0, first.1)

  -- a firing of the list is before the last minute, or not
  early : (i : ℕ) → i < length before → get_or minutes i 0 < last
  early i h =
      let e : get_or minutes i 0 ≡ get_or (minutes_of before) i 0 = ap (λ (l : List Firing). get_or (minutes_of l) i 0) parts ∙ minutes-left before rest i h in
      omega (arith, e, (minute-within t a (last - 1) i h).1, span.0)

  late : (i : ℕ) → length before ≤ i → i < n → get_or minutes i 0 ≡ last
  late i h j =
      let sizes : length (merged_of t a b) ≡ length before + length rest = ap length parts ∙ length-append before rest in
      let e : get_or minutes i 0 ≡ get_or (minutes_of rest) (i - length before) 0 = ap (λ (l : List Firing). get_or (minutes_of l) i 0) parts ∙ minutes-right before rest i h in
      let low = (minute-within t (last - 1) b (i - length before) (omega (arith, sizes))).0 in
      let whole : merged_of t a b ≡ merged_of t a last ++ merged_of t last b = merged-split t a last b (omega (arith, span.0)) span.1 in
      let f : get_or minutes i 0 ≡ get_or (minutes_of (merged_of t a last)) i 0 =
      ap (λ (l : List Firing). get_or (minutes_of l) i 0) whole ∙ minutes-left (merged_of t a last) (merged_of t last b) i (omega (arith, up-to)) in
      omega (arith, e, low, f, (minute-within t a last i (omega (arith, up-to))).1)

  pub piece-ends : k ≤ n → ((j : ℕ) → k ≤ j → j < n → get_or minutes j 0 ≡ last) → (0 < k → get_or minutes (k - 1) 0 ≡ last → ⊥)
      → PieceEnds t a b k last
  piece-ends within after other =
      record {
        onward = onward;
        within = span.1;
        count = elim (dec_le (length before) k) [ yes h ↦ elim (dec_le k (length before)) [ yes i ↦ omega arith | no i ↦ absurd (more h (lt_of_not-le i)) ] | no h ↦ absurd (less (lt_of_not-le h)) ];
        split = parts;
      }
    where
      -- the last minute's firing is none of those before it
      short : length before < n
      short = elim (dec_le n (length before)) [ yes h ↦ absurd (omega (arith, early (n - 1) (omega arith))) | no h ↦ lt_of_not-le h ]

      less : k < length before → ⊥
      less h = omega (arith, early k h, after k (omega arith) (omega (arith, short)))

      more : length before ≤ k → length before < k → ⊥
      more h i = other (omega arith) (late (k - 1) (omega arith) (omega arith))
