-- A merged list is the rising list of the keys that stand for a firing.
-- Assumes nothing.
use mathlib.Core.Path.{◌≡◌, refl, ap, ◌∙◌}
use mathlib.Core.Bool.{Bool, true, false, cond}
use mathlib.Core.List.{List, [], ◌∷◌, ◌++◌, map}
use Prim.Native.Nat.{ℕ, zero, suc, ◌+◌, ◌-◌, ◌*◌, ◌/◌, ◌%◌, ◌≤◌, ◌<◌}
use native.Mathlib.Nat.{lt_of_not-le}
use native.Mathlib.Decide.{dec_le}
use native.Mathlib.Omega.{arith}
use Rattle.octets.specs.Passing.{passing, passing_up_to}
use Rattle.firings.specs.Lists.{Firing, at_minute, entries_from, merged_over, merged_up_to}
use Rattle.firings.specs.Keys.{firing_of, is_firing}
use Rattle.firings.proofs.Waiting.{firing-is, firing-none}

map-append : (l r : List ℕ) → map firing_of (l ++ r) ≡ map firing_of l ++ map firing_of r
map-append [] r = refl
map-append (x ∷ l) r = ap (λ (t : List Firing). firing_of x ∷ t) (map-append l r)

passing-append : (p : ℕ → Bool) (n k a : ℕ) → passing p (n + k) a ≡ passing p n a ++ passing p k (a + n)
unfolding passing
passing-append p zero k a = let e : zero + k ≡ k = omega arith in let f : a + zero ≡ a = omega arith in rw (e, f)
passing-append p (suc n) k a =
    let e : suc n + k ≡ suc (n + k) = omega arith in
    let f : a + suc n ≡ suc a + n = omega arith in
    rw (e, f, passing-append p n k (suc a)) (go (p a))
  where
    go : (b : Bool) → cond b (a ∷ (passing p n (suc a) ++ passing p k (suc a + n))) (passing p n (suc a) ++ passing p k (suc a + n))
        ≡ cond b (a ∷ passing p n (suc a)) (passing p n (suc a)) ++ passing p k (suc a + n)
    go true = refl
    go false = refl

firing-at : (key m i : ℕ) → key / 512 ≡ m → key % 512 ≡ i → firing_of key ≡ record { minute = m; entry = i }
unfolding firing_of
firing-at key m i p q = rw (p, q)

module _ (fires : ℕ → ℕ → Bool) (count : ℕ) (few : count ≤ 512) where
  abbrev test : ℕ → Bool
  test = is_firing fires count

  -- the keys of a minute, from an entry on, are its entries
  keys-minute : (n m i : ℕ) → n + i ≡ 512 → map firing_of (passing test n (m * 512 + i)) ≡ at_minute m (entries_from fires count m i)
  unfolding passing at_minute entries_from
  keys-minute zero m i h = let e : count - i ≡ 0 = omega arith in rw e
  keys-minute (suc n) m i h =
      let next : suc (m * 512 + i) ≡ m * 512 + suc i = omega arith in
      let r = rw (← next) at (keys-minute n m (suc i) (omega arith)) in
      elim (dec_le count i) [ yes l ↦ behind l r | no l ↦ among (lt_of_not-le l) r ]
    where
      key : ℕ
      key = m * 512 + i

      entry : key % 512 ≡ i
      entry = omega arith

      minute : key / 512 ≡ m
      minute = omega arith

      here : firing_of key ≡ record { minute = m; entry = i }
      here = firing-at key m i minute entry

      later : List ℕ
      later = passing test n (suc key)

      behind : count ≤ i → map firing_of later ≡ at_minute m (passing (λ e. fires e m) (count - suc i) (suc i))
          → map firing_of (cond (test key) (key ∷ later) later) ≡ at_minute m (passing (λ e. fires e m) (count - i) i)
      behind l r =
          let d : count ≤ key % 512 = omega (arith, entry) in
          let e : count - i ≡ 0 = omega arith in
          let f : count - suc i ≡ 0 = omega arith in
          rw (firing-none fires count key d, e) (rw f at r)

      among : i < count → map firing_of later ≡ at_minute m (passing (λ e. fires e m) (count - suc i) (suc i))
          → map firing_of (cond (test key) (key ∷ later) later) ≡ at_minute m (passing (λ e. fires e m) (count - i) i)
      among l r =
          let e : count - i ≡ suc (count - suc i) = omega arith in
          rw (firing-is fires count key i entry l, minute, e) (go (fires i m))
        where
          go : (b : Bool) → map firing_of (cond b (key ∷ later) later)
              ≡ at_minute m (cond b (i ∷ passing (λ e. fires e m) (count - suc i) (suc i)) (passing (λ e. fires e m) (count - suc i) (suc i)))
          go true = ap (λ (f : Firing). f ∷ map firing_of later) here ∙ ap (λ (l : List Firing). record { minute = m; entry = i } ∷ l) r
          go false = r

  keys_none : (a : ℕ) → map firing_of (passing test 0 a) ≡ []
  unfolding passing
  keys_none a = refl

  keys-more : (w n k a : ℕ) → k ≡ w + n → map firing_of (passing test k a) ≡ map firing_of (passing test w a) ++ map firing_of (passing test n (a + w))
  keys-more w n k a e = rw (e, passing-append test w n a) (map-append (passing test w a) (passing test n (a + w)))

  keys-minutes : (n m : ℕ) → map firing_of (passing test (n * 512) (m * 512)) ≡ merged_over fires count n m
  unfolding merged_over
  keys-minutes zero m = keys_none (m * 512)
  keys-minutes (suc n) m =
      let z : m * 512 ≡ m * 512 + 0 = omega arith in
      let f : m * 512 + 512 ≡ suc m * 512 = omega arith in
      keys-more 512 (n * 512) (suc n * 512) (m * 512) (omega arith)
      ∙ ap (λ (l : List Firing). l ++ map firing_of (passing test (n * 512) (m * 512 + 512))) (ap (λ (k : ℕ). map firing_of (passing test 512 k)) z ∙ keys-minute 512 m 0 refl)
      ∙ ap (λ (l : List Firing). at_minute m (entries_from fires count m 0) ++ l) (ap (λ (k : ℕ). map firing_of (passing test (n * 512) k)) f ∙ keys-minutes n (suc m))

  pub merged-keys : (b m : ℕ) → map firing_of (passing_up_to test (b * 512 + 511) (m * 512)) ≡ merged_up_to fires count b m
  unfolding passing_up_to merged_up_to
  merged-keys b m =
      let e : b * 512 + 511 + 1 - m * 512 ≡ (b + 1 - m) * 512 = omega arith in
      rw e (keys-minutes (b + 1 - m) m)
