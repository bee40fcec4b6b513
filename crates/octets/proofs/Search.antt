-- Laws of the least number that passes: what it is, said with no recursion, and how a search goes on, stops and splits.
-- Assumes nothing.
use mathlib.Core.Path.{◌≡◌, refl, sym, ◌∙◌}
use mathlib.Core.Bool.{Bool, true, false, cond, true≢false}
use Prim.Native.Nat.{ℕ, zero, suc, ◌+◌, ◌-◌, ◌≤◌, ◌<◌}
use native.Mathlib.Nat.{lt_of_not-le}
use native.Mathlib.Decide.{dec_le}
use native.Mathlib.Omega.{arith}
use lib.Dec.{leb}
use borrow.Author.Tests.{leb-true, le-leb, lt-leb}
use Rattle.octets.specs.Search.{least_of, from, passes}

-- n is the least number from a on and below e that passes p, or e
pub record Least (p : ℕ → Bool) (e a n : ℕ) : Type 0 where
  pub low : a ≤ n
  pub high : n ≤ e
  pub passes : n < e → p n ≡ true
  pub none : (k : ℕ) → a ≤ k → k < n → p k ≡ false

-- there is one such number only
pub least-one : {p : ℕ → Bool} {e a n m : ℕ} → Least p e a n → Least p e a m → n ≡ m
least-one {p} {e} {a} {n} {m} f g = elim (dec_le n m) [ yes h ↦ elim (dec_le m n) [ yes k ↦ omega arith | no k ↦ absurd (apart f g (lt_of_not-le k)) ] | no h ↦ absurd (apart g f (lt_of_not-le h)) ]
  where
    apart : {x y : ℕ} → Least p e a x → Least p e a y → x < y → ⊥
    apart {x} {y} f g h = true≢false (sym (f.passes (omega (arith, g.high))) ∙ g.none x f.low h)

pub least_of-least : (p : ℕ → Bool) (n a : ℕ) → Least p (a + n) a (least_of p n a)
unfolding least_of
least_of-least p zero a = record { low = omega arith; high = omega arith; passes = λ h. absurd (omega arith); none = λ k h l. absurd (omega arith) }
least_of-least p (suc n) a = go (p a) refl (least_of-least p n (suc a))
  where
    same : (k : ℕ) → a ≤ k → k < suc a → k ≡ a
    same k h j = omega arith

    go : (b : Bool) → p a ≡ b → Least p (suc a + n) (suc a) (least_of p n (suc a))
        → Least p (a + suc n) a (cond b a (least_of p n (suc a)))
    go true e l = record { low = omega arith; high = omega arith; passes = λ h. e; none = λ k h i. absurd (omega arith) }
    go false e l =
        record {
          low = omega (arith, l.low);
          high = omega (arith, l.high);
          passes = λ h. l.passes (omega arith);
          none = λ k h i. elim (dec_le (suc a) k) [ yes j ↦ l.none k j i | no j ↦ rw (same k h (lt_of_not-le j)) e ];
        }

pub from-least : (p : ℕ → Bool) (e a : ℕ) → a ≤ e → Least p e a (from p e a)
unfolding from
from-least p e a h = let q : a + (e - a) ≡ e = omega arith in rw q at (least_of-least p (e - a) a)

pub least-from : {p : ℕ → Bool} {e a n : ℕ} → a ≤ e → Least p e a n → n ≡ from p e a
least-from {p} {e} {a} h l = least-one l (from-least p e a h)

-- something passes just where the least number is below the end
pub from_some : (p : ℕ → Bool) (e a n : ℕ) → a ≤ n → n < e → p n ≡ true → from p e a < e
from_some p e a n h k t = elim (dec_le e (from p e a)) [ yes l ↦ absurd (true≢false (sym t ∙ (from-least p e a (omega arith)).none n h (omega arith))) | no l ↦ lt_of_not-le l ]

pub some-from : (p : ℕ → Bool) (e a : ℕ) → a ≤ e → from p e a < e → (n : ℕ) × (a ≤ n) × (n < e) × (p n ≡ true)
some-from p e a h k = let l = from-least p e a h in (from p e a, l.low, k, l.passes k)

-- ---- one step of a search

pub from-stop : (p : ℕ → Bool) (e a : ℕ) → a < e → p a ≡ true → a ≡ from p e a
from-stop p e a h t = least-from (omega arith) (record { low = omega arith; high = omega arith; passes = λ _. t; none = λ k i j. absurd (omega arith) })

pub from_past : (p : ℕ → Bool) (e a : ℕ) → e ≤ a → a ≡ from p e a
unfolding from least_of
from_past p e a h = let z : e - a ≡ 0 = omega arith in rw z

pub from-none : (p : ℕ → Bool) (e a : ℕ) → a ≤ e → ((k : ℕ) → a ≤ k → k < e → p k ≡ false) → e ≡ from p e a
from-none p e a h none = least-from h (record { low = h; high = omega arith; passes = λ k. absurd (omega arith); none = none })

-- where nothing passes up to b, a search may start there
pub from-skip : (p : ℕ → Bool) (e a b : ℕ) → a ≤ b → b ≤ e → ((k : ℕ) → a ≤ k → k < b → p k ≡ false) → from p e b ≡ from p e a
from-skip p e a b h k none =
    let l = from-least p e b k in
    least-from (omega arith)
    (record {
      low = omega (arith, l.low);
      high = l.high;
      passes = l.passes;
      none = λ i u v. elim (dec_le b i) [ yes w ↦ l.none i w v | no w ↦ none i u (lt_of_not-le w) ];
    })

pub from_next : (p : ℕ → Bool) (e a : ℕ) → a < e → p a ≡ false → from p e (a + 1) ≡ from p e a
from_next p e a h f = from-skip p e a (a + 1) (omega arith) (omega arith) (λ k i j. rw (same k i j) f)
  where
    same : (k : ℕ) → a ≤ k → k < a + 1 → k ≡ a
    same k i j = omega arith

-- what is found in a part of the range is found in all of it, and where nothing is, the search goes on behind it
pub from-part : (p : ℕ → Bool) (e b a : ℕ) → a ≤ b → b ≤ e → from p b a < b → from p b a ≡ from p e a
from-part p e b a h k f =
    let l = from-least p b a h in
    least-from (omega arith) (record { low = l.low; high = omega (arith, l.high); passes = λ _. l.passes f; none = l.none })

pub from-behind : (p : ℕ → Bool) (e b a : ℕ) → a ≤ b → b ≤ e → b ≤ from p b a → from p e b ≡ from p e a
from-behind p e b a h k f =
    let l = from-least p b a h in
    from-skip p e a b h k (λ i u v. l.none i u (omega (arith, l.high)))

-- tests that agree on the range have the same least number
pub from-same : (p q : ℕ → Bool) (e a : ℕ) → a ≤ e → ((k : ℕ) → a ≤ k → k < e → p k ≡ q k) → from p e a ≡ from q e a
from-same p q e a h same =
    let l = from-least p e a h in
    least-from h
    (record {
      low = l.low;
      high = l.high;
      passes = λ k. sym (same _ l.low k) ∙ l.passes k;
      none = λ k u v. sym (same k u (omega (arith, l.high))) ∙ l.none k u v;
    })

-- ---- whether any number above a and up to b passes

module _ (p : ℕ → Bool) (a b : ℕ) where
  pub some-passes : (n : ℕ) → a < n → n ≤ b → p n ≡ true → passes p a b ≡ true
  unfolding passes
  some-passes n h k t = le-leb (from p (b + 1) (a + 1)) b (omega (arith, from_some p (b + 1) (a + 1) n (omega arith) (omega arith) t))

  pub passes-some : passes p a b ≡ true → (n : ℕ) × (a < n) × (n ≤ b) × (p n ≡ true)
  unfolding passes
  passes-some e = elim (dec_le a b) [ yes h ↦ within h | no h ↦ absurd (past (lt_of_not-le h)) ]
    where
      found : from p (b + 1) (a + 1) ≤ b
      found = leb-true _ _ e

      within : a ≤ b → (n : ℕ) × (a < n) × (n ≤ b) × (p n ≡ true)
      within h =
          let (n, u, v, t) = some-from p (b + 1) (a + 1) (omega arith) (omega (arith, found)) in
          (n, omega arith, omega arith, t)

      past : b < a → ⊥
      past h = omega (arith, found, from_past p (b + 1) (a + 1) (omega arith))

  pub none_passes : ((k : ℕ) → a < k → k ≤ b → p k ≡ false) → passes p a b ≡ false
  unfolding passes
  none_passes none = lt-leb (from p (b + 1) (a + 1)) b (elim (dec_le a b) [ yes h ↦ within h | no h ↦ omega (arith, lt_of_not-le h, past (lt_of_not-le h)) ])
    where
      within : a ≤ b → b < from p (b + 1) (a + 1)
      within h = omega (arith, from-none p (b + 1) (a + 1) (omega arith) (λ k u v. none k (omega arith) (omega arith)))

      past : b < a → a + 1 ≡ from p (b + 1) (a + 1)
      past h = from_past p (b + 1) (a + 1) (omega arith)

  -- a search that goes on behind b tells as well
  pub passes-search : (e : ℕ) → b < e → passes p a b ≡ leb (from p e (a + 1)) b
  passes-search e h = elim (dec_le (from p e (a + 1)) b) [ yes k ↦ found k | no k ↦ behind (lt_of_not-le k) ]
    where
      start : from p e (a + 1) ≤ b → a + 1 ≤ e
      start k = elim (dec_le (a + 1) e) [ yes j ↦ j | no j ↦ absurd (omega (arith, from_past p e (a + 1) (omega (arith, lt_of_not-le j)))) ]

      found : from p e (a + 1) ≤ b → passes p a b ≡ leb (from p e (a + 1)) b
      found k =
          let l = from-least p e (a + 1) (start k) in
          some-passes (from p e (a + 1)) (omega (arith, l.low)) k (l.passes (omega arith)) ∙ sym (le-leb _ _ k)

      behind : b < from p e (a + 1) → passes p a b ≡ leb (from p e (a + 1)) b
      behind k = none_passes none ∙ sym (lt-leb _ _ k)
        where
          none : (i : ℕ) → a < i → i ≤ b → p i ≡ false
          none i u v = (from-least p e (a + 1) (omega arith)).none i (omega arith) (omega arith)
