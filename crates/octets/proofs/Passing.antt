-- Laws of the numbers of a range that pass a test.
-- Assumes nothing.
use mathlib.Core.Path.{◌≡◌, refl, ◌∙◌}
use mathlib.Core.Bool.{Bool, true, false, cond, and-false, and-eq-true_iff}
use mathlib.Core.List.{[], ◌∷◌}
use Prim.Native.Nat.{ℕ, zero, suc, ◌+◌, ◌-◌, ◌≤◌, ◌<◌}
use native.Mathlib.Omega.{arith}
use native.Mathlib.Numerals.{add-one}
use lib.Dec.{eqb}
use borrow.Author.Tests.{eq-eqb, ne_eqb, eqb-true}
use Rattle.octets.specs.Passing.{passing, passing_up_to, count_below, is_ranked}

module _ (p : ℕ → Bool) (b : ℕ) where
  -- none behind the end
  pub up-end : (a : ℕ) → b < a → passing_up_to p b a ≡ []
  unfolding passing_up_to passing
  up-end a h = let z : b + 1 - a ≡ 0 = omega arith in rw z

  -- one that passes comes first
  pub up-here : (a : ℕ) → a ≤ b → p a ≡ true → passing_up_to p b a ≡ a ∷ passing_up_to p b (a + 1)
  unfolding passing_up_to passing
  up-here a h t =
      let e : b + 1 - a ≡ suc (b - a) = omega arith in
      let f : b + 1 - (a + 1) ≡ b - a = omega arith in
      rw (e, f, add-one a, t)

  -- one that doesn't is passed over
  pub up-pass : (a : ℕ) → p a ≡ false → passing_up_to p b a ≡ passing_up_to p b (a + 1)
  unfolding passing_up_to passing
  up-pass a t = go (b + 1 - a) refl
    where
      go : (n : ℕ) → b + 1 - a ≡ n → passing p n a ≡ passing p (b + 1 - (a + 1)) (a + 1)
      go zero e = let f : b + 1 - (a + 1) ≡ 0 = omega arith in rw f
      go (suc n) e = let f : b + 1 - (a + 1) ≡ n = omega arith in rw (f, add-one a, t)

  -- and so are many
  pub up-skip : (a c : ℕ) → a ≤ c → ((k : ℕ) → a ≤ k → k < c → p k ≡ false) → passing_up_to p b a ≡ passing_up_to p b c
  up-skip a c h none = go (c - a) a refl h none
    where
      go : (n x : ℕ) → c - x ≡ n → x ≤ c → ((k : ℕ) → x ≤ k → k < c → p k ≡ false) → passing_up_to p b x ≡ passing_up_to p b c
      go zero x e i f = let q : x ≡ c = omega arith in rw q
      go (suc n) x e i f = up-pass x (f x (omega arith) (omega arith)) ∙ go n (x + 1) (omega arith) (omega arith) (λ k u v. f k (omega arith) v)

-- ---- how many below a number pass

module _ (p : ℕ → Bool) where
  pub below-few : (n : ℕ) → count_below p n ≤ n
  unfolding count_below
  below-few zero = omega arith
  below-few (suc n) = go (p n) (below-few n)
    where
      go : (b : Bool) → count_below p n ≤ n → cond b (suc (count_below p n)) (count_below p n) ≤ suc n
      go true h = omega arith
      go false h = omega arith

  pub below_next : (n : ℕ) → p n ≡ true → count_below p (n + 1) ≡ count_below p n + 1
  unfolding count_below
  below_next n t = rw (add-one n, t) (let e : suc (count_below p n) ≡ count_below p n + 1 = omega arith in e)

  pub below-pass : (n : ℕ) → p n ≡ false → count_below p (n + 1) ≡ count_below p n
  unfolding count_below
  below-pass n t = rw (add-one n, t)

-- of two tests that agree below n as many pass
pub below-same : (p q : ℕ → Bool) (n : ℕ) → ((k : ℕ) → k < n → p k ≡ q k) → count_below p n ≡ count_below q n
unfolding count_below
below-same p q zero h = refl
below-same p q (suc n) h = rw (h n (omega arith), below-same p q n (λ k u. h k (omega arith)))

-- where a number has its rank
module _ (p : ℕ → Bool) (rank k : ℕ) where
  pub ranked-here : p k ≡ true → count_below p k ≡ rank → is_ranked p rank k ≡ true
  unfolding is_ranked
  ranked-here t e = rw (t, eq-eqb (count_below p k) rank e)

  pub ranked-other : (count_below p k ≡ rank → ⊥) → is_ranked p rank k ≡ false
  unfolding is_ranked
  ranked-other n = rw (ne_eqb (count_below p k) rank n) (and-false (p k))

  pub ranked-out : p k ≡ false → is_ranked p rank k ≡ false
  unfolding is_ranked
  ranked-out t = rw t

  pub ranked-is : is_ranked p rank k ≡ true → (p k ≡ true) × (count_below p k ≡ rank)
  unfolding is_ranked
  ranked-is e = let t = (and-eq-true_iff (p k) (eqb (count_below p k) rank)).0 e in (t.0, eqb-true (count_below p k) rank t.1)
