-- Laws of spans of days: `Falls` says where a day falls with no recursion, and the walk finds just that.
-- Assumes nothing.
use mathlib.Core.Path.{◌≡◌, refl, sym, ap, ◌∙◌}
use mathlib.Core.Logic.{◌⊎◌, inl, inr}
use mathlib.Core.Bool.{Bool, true, false, cond}
use Prim.Native.Nat.{ℕ, zero, suc, ◌+◌, ◌-◌, ◌≤◌, ◌<◌}
use native.Mathlib.Nat.{add-suc, add-zero, suc-add, lt_of_not-le}
use native.Mathlib.Numerals.{add-one}
use native.Mathlib.Decide.{dec_le}
use native.Mathlib.Omega.{arith}
use lib.Dec.{ltb}
use borrow.Author.Tests.{ltb-true, ltb-false, lt-ltb, le-ltb}
use Rattle.calendar.specs.declared.walk.Place.{Place}
use Rattle.calendar.specs.Walk.{span, walk}

-- day d, counted from the first of span number i, falls in one of the n spans from i on
pub record Falls (days : ℕ → ℕ) (i n d : ℕ) (p : Place) : Type 0 where
  pub from : i ≤ p.at
  pub before : p.at < i + n
  pub inside : p.rest < days p.at
  pub sum : span days i (p.at - i) + p.rest ≡ d

module _ (days : ℕ → ℕ) where
  pub span_none : (i : ℕ) → span days i 0 ≡ 0
  unfolding span
  span_none i = refl

  -- spans one after the other
  pub span-append : (i a b : ℕ) → span days i (a + b) ≡ span days i a + span days (i + a) b
  unfolding span
  span-append i zero b = rw (native.Mathlib.Nat.zero-add b, add-zero i) (omega arith)
  span-append i (suc a) b = rw (suc-add a b, add-suc i a, ← suc-add i a, span-append (suc i) a b) (omega arith)

  pub span-first : (i n : ℕ) → span days i (suc n) ≡ days i + span days (suc i) n
  unfolding span
  span-first i n = refl

  -- one span more, at the end
  pub span_more : (i n : ℕ) → span days i (n + 1) ≡ span days i n + days (i + n)
  unfolding span
  span_more i n = span-append i n 1 ∙ omega arith

  -- the same, up to the span with the number `at`
  pub span-next : (i at : ℕ) → i ≤ at → span days i (at + 1 - i) ≡ span days i (at - i) + days at
  span-next i at h =
      let a : at + 1 - i ≡ at - i + 1 = omega arith in
      let b : i + (at - i) ≡ at = omega arith in
      rw a (span_more i (at - i) ∙ ap (λ (j : ℕ). span days i (at - i) + days j) b)

  -- where span i + p is as long as span i, a window of p spans may move on by one
  pub span-turn : (i p : ℕ) → days (i + p) ≡ days i → span days (suc i) p ≡ span days i p
  span-turn i p e = omega (arith, span-first i p, span_more i p, ap (span days i) (add-one p))

  pub span-mono : (i : ℕ) {a b : ℕ} → a ≤ b → span days i a ≤ span days i b
  span-mono i {a} {b} h =
      let e : a + (b - a) ≡ b = omega arith in
      omega (arith, span-append i a (b - a), ap (span days i) e)

  -- the spans up to a later one
  span-step : (i at : ℕ) → i < at → span days i (at - i) ≡ days i + span days (suc i) (at - suc i)
  span-step i at h = let e : at - i ≡ suc (at - suc i) = omega arith in ap (span days i) e ∙ span-first i (at - suc i)

  pub falls-within : {i n d : ℕ} {p : Place} → Falls days i n d p → d < span days i n
  falls-within {i} {n} {d} {p} f =
      let m : p.at + 1 - i ≤ n = omega (arith, f.from, f.before) in
      omega (arith, f.inside, f.sum, span-next i p.at f.from, span-mono i m)

  pub walk-falls : (i n d : ℕ) → d < span days i n → Falls days i n d (walk days i n d)
  unfolding span walk
  walk-falls i zero d h = absurd (omega arith)
  walk-falls i (suc n) d h = go (ltb d (days i)) refl (λ k. walk-falls (suc i) n (d - days i) k)
    where
      go : (t : Bool) → ltb d (days i) ≡ t
          → (d - days i < span days (suc i) n → Falls days (suc i) n (d - days i) (walk days (suc i) n (d - days i)))
          → Falls days i (suc n) d (cond t (record { at = i; rest = d }) (walk days (suc i) n (d - days i)))
      go true e later =
          record {
            from = omega arith;
            before = omega arith;
            inside = ltb-true _ _ e;
            sum = let z : i - i ≡ 0 = omega arith in rw z (omega arith);
          }
      go false e later =
          let k : days i ≤ d = ltb-false _ _ e in
          let f = later (omega arith) in
          record {
            from = omega arith;
            before = omega (arith, f.before);
            inside = f.inside;
            sum = omega (arith, f.sum, span-step i (walk days (suc i) n (d - days i)).at f.from);
          }

  pub falls-walk : (i n d : ℕ) (p : Place) → Falls days i n d p → walk days i n d ≡ p
  unfolding span walk
  falls-walk i zero d p f = absurd (omega arith)
  falls-walk i (suc n) d p f = elim (dec_le p.at i) [ yes h ↦ here h | no h ↦ later (lt_of_not-le h) (λ g. falls-walk (suc i) n (d - days i) p g) ]
    where
      here : p.at ≤ i → walk days i (suc n) d ≡ p
      here h =
          let e : i ≡ p.at = omega arith in
          let z : p.at - i ≡ 0 = omega arith in
          let s : p.rest ≡ d = omega (arith, f.sum, ap (span days i) z) in
          let t : d < days i = rw (e, ← s) f.inside in
          rw (lt-ltb d (days i) t) (λ j. record { at = e j; rest = sym s j })

      later : i < p.at → (Falls days (suc i) n (d - days i) p → walk days (suc i) n (d - days i) ≡ p)
          → walk days i (suc n) d ≡ p
      later h more =
          let s = span-step i p.at h in
          let t : days i ≤ d = omega (arith, f.sum) in
          rw (le-ltb d (days i) t)
          (more (record { from = h; before = omega (arith, f.before); inside = f.inside; sum = omega (arith, f.sum) }))

  -- a later day falls in a later span, or later in the same one
  pub falls-order : {i n d e : ℕ} {p q : Place} → Falls days i n d p → Falls days i n e q → d < e
      → (p.at < q.at) ⊎ ((p.at ≡ q.at) × (p.rest < q.rest))
  falls-order {i} {n} {d} {e} {p} {q} f g h = elim (dec_le q.at p.at) [ yes k ↦ inr (same k) | no k ↦ inl (lt_of_not-le k) ]
    where
      not-before : q.at < p.at → ⊥
      not-before k =
          let m : q.at + 1 - i ≤ p.at - i = omega (arith, g.from) in
          omega (arith, f.sum, g.sum, g.inside, span-next i q.at g.from, span-mono i m)

      same : q.at ≤ p.at → (p.at ≡ q.at) × (p.rest < q.rest)
      same k =
          let a : p.at ≡ q.at = elim (dec_le p.at q.at) [ yes l ↦ omega arith | no l ↦ absurd (not-before (lt_of_not-le l)) ] in
          (a, omega (arith, f.sum, g.sum, ap (λ (x : ℕ). span days i (x - i)) a))

  -- The walk as a loop goes it: so far it has come to span number `at`, and `rest` is what is left of day d.
  pub record Going (i n d at rest : ℕ) : Type 0 where
    pub from : i ≤ at
    pub sum : span days i (at - i) + rest ≡ d
    pub within : d < span days i n

  module _ {i n d at rest : ℕ} (g : Going i n d at rest) where
    pub going_before : at < i + n
    going_before = elim (dec_le (i + n) at) [ yes h ↦ absurd (past h) | no h ↦ lt_of_not-le h ]
      where
        past : i + n ≤ at → ⊥
        past h = let k : n ≤ at - i = omega arith in omega (arith, span-mono i k, g.sum, g.within)

    pub going_on : {l : ℕ} → l ≡ days at → l ≤ rest → Going i n d (at + 1) (rest - l)
    going_on {l} e h =
        record {
          from = omega (arith, g.from);
          sum = omega (arith, g.sum, span-next i at g.from);
          within = g.within;
        }

    pub going-ends : {l : ℕ} → l ≡ days at → rest < l → record { at = at; rest = rest } ≡ walk days i n d
    going-ends {l} e h =
        sym (falls-walk i n d _ (record { from = g.from; before = going_before; inside = rw (← e) h; sum = g.sum }))
