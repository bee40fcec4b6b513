-- Laws of the least number that passes, for a number of two digits; those of any search are in crate `bytes`.
-- Assumes nothing.
use mathlib.Core.Path.{◌≡◌, sym, ap, ◌∙◌}
use mathlib.Core.Bool.{Bool, true, false, ◌&&◌}
use mathlib.Core.Logic.{◌⊎◌, inl, inr}
use Prim.Native.Nat.{ℕ, ◌+◌, ◌-◌, ◌*◌, ◌/◌, ◌%◌, ◌≤◌, ◌<◌}
use native.Mathlib.Nat.{lt_of_not-le, le-div_iff_mul-le, div-lt_iff_lt-mul, mul-le-mul_right, mod-lt, div-add-mod'}
use native.Mathlib.Decide.{dec_le}
use native.Mathlib.Omega.{arith}
use lib.Arith.{digits_div, digits_mod}
use lib.Dec.{ltb}
use borrow.Author.Tests.{ltb-true, ltb-false}
use Rattle.calendar.proofs.Tests.{and-true, and-false, false-and}
use Rattle.schedule.specs.Search.{from}
pub use Rattle.octets.proofs.Search.{Least, least-one, least_of-least, from-least, least-from, from_some, some-from, from-stop, from_past, from-none, from-skip, from_next, from-part, from-behind, from-same, some-passes, passes-some, none_passes, passes-search}

-- ---- a search by two digits: of numbers x * k + y with y < k, where x passes a and y passes b

module _ (k : ℕ) (pos : 0 < k) (a b : ℕ → Bool) where
  abbrev pub digits : ℕ → Bool
  digits n = a (n / k) && b (n % k)

  digits-at : (x y : ℕ) → y < k → digits (x * k + y) ≡ (a x && b y)
  digits-at x y h = rw (digits_div x h, digits_mod x h)

  -- the numbers up to x * k + z, from x * k + y on
  within : (x y z n : ℕ) → y ≤ z → z ≤ k → x * k + y ≤ n → n < x * k + z → (n / k ≡ x) × (y ≤ n % k) × (n % k < z)
  within x y z n h i u v =
      let r : n - x * k < k = omega arith in
      let e : n ≡ x * k + (n - x * k) = omega arith in
      let d : n / k ≡ x = ap (λ (t : ℕ). t / k) e ∙ digits_div x r in
      let m : n % k ≡ n - x * k = ap (λ (t : ℕ). t % k) e ∙ digits_mod x r in
      (d, omega arith, omega arith)

  -- nothing passes in row x from y on
  abbrev pub Blank : ℕ → ℕ → Type 0
  Blank x y = (a x ≡ false) ⊎ (k ≤ from b k y)

  blank-row : (x y n : ℕ) → y < k → Blank x y → x * k + y ≤ n → n < (x + 1) * k → digits n ≡ false
  blank-row x y n h o u v =
      let w = within x y k n (omega arith) (omega arith) u (omega arith) in
      false-and (a (n / k)) (b (n % k)) (elim o [ inl f ↦ inl (rw w.0 f) | inr g ↦ inr ((from-least b k y (omega arith)).none (n % k) w.1 (omega (arith, w.2))) ])

  blank-rows : (x z n : ℕ) → ((i : ℕ) → x ≤ i → i < z → a i ≡ false) → x * k ≤ n → n < z * k → digits n ≡ false
  blank-rows x z n none u v =
      false-and (a (n / k)) (b (n % k))
      (inl (none (n / k) ((le-div_iff_mul-le {k = k} pos).1 u) ((div-lt_iff_lt-mul {k = k} pos).1 v)))

  module _ (e x y : ℕ) (hx : x < e) (hy : y < k) where
    row_here : a x ≡ true → from b k y < k → x * k + from b k y ≡ from digits (e * k) (x * k + y)
    row_here t f =
        let l = from-least b k y (omega arith) in
        let r : (x + 1) * k ≤ e * k = mul-le-mul_right k (omega arith) in
        least-from (omega arith)
        (record {
          low = omega (arith, l.low);
          high = omega arith;
          passes = λ _. digits-at x (from b k y) f ∙ rw (t, l.passes f);
          none =
              λ n u v.
              let w = within x y (from b k y) n l.low l.high u v in
              false-and (a (n / k)) (b (n % k)) (inr (l.none (n % k) w.1 w.2));
        })

    row-later : Blank x y → from a e (x + 1) < e → from b k 0 < k
        → from a e (x + 1) * k + from b k 0 ≡ from digits (e * k) (x * k + y)
    row-later o f g =
        let z = from a e (x + 1) in
        let la = from-least a e (x + 1) (omega arith) in
        let lb = from-least b k 0 (omega arith) in
        let r : (x + 1) * k ≤ z * k = mul-le-mul_right k la.low in
        let q : (z + 1) * k ≤ e * k = mul-le-mul_right k (omega arith) in
        least-from (omega arith)
        (record {
          low = omega arith;
          high = omega arith;
          passes = λ _. digits-at z (from b k 0) g ∙ rw (la.passes f, lb.passes g);
          none =
              λ n u v.
              elim (dec_le ((x + 1) * k) n) [
                | no h ↦ blank-row x y n hy o u (lt_of_not-le h)
                | yes h ↦
                    elim (dec_le (z * k) n) [
                      | no i ↦ blank-rows (x + 1) z n la.none h (lt_of_not-le i)
                      | yes i ↦
                          let w = within z 0 (from b k 0) n (omega arith) lb.high (omega arith) v in
                          false-and (a (n / k)) (b (n % k)) (inr (lb.none (n % k) w.1 w.2))
                    ]
              ];
        })

    row-none : Blank x y → (e ≤ from a e (x + 1)) ⊎ (k ≤ from b k 0) → e * k ≡ from digits (e * k) (x * k + y)
    row-none o f =
        let r : (x + 1) * k ≤ e * k = mul-le-mul_right k (omega arith) in
        least-from (omega arith)
        (record {
          low = omega arith;
          high = omega arith;
          passes = λ h. absurd (omega arith);
          none =
              λ n u v.
              elim (dec_le ((x + 1) * k) n) [
                | no h ↦ blank-row x y n hy o u (lt_of_not-le h)
                | yes h ↦ later n h v f
              ];
        })
      where
        later : (n : ℕ) → (x + 1) * k ≤ n → n < e * k → (e ≤ from a e (x + 1)) ⊎ (k ≤ from b k 0) → digits n ≡ false
        later n h v (inl g) = blank-rows (x + 1) e n (λ i u w. (from-least a e (x + 1) (omega arith)).none i u (omega arith)) h v
        later n h v (inr g) = false-and (a (n / k)) (b (n % k)) (inr ((from-least b k 0 (omega arith)).none (n % k) (omega arith) (omega (arith, mod-lt n pos))))

  -- from a number n on: in its own row, in a later one, or nowhere
  module _ (e n : ℕ) (h : n < e * k) where
    x< : n / k < e
    x< = (div-lt_iff_lt-mul {k = k} pos).1 h

    whole : n / k * k + n % k ≡ n
    whole = div-add-mod' n k

    -- As code goes it: `u` is whether the row of n passes, m the least in it, x the least row after it, y the least of any row.
    module _ {u : Bool} {m : ℕ} (eu : u ≡ a (n / k)) (em : m ≡ from b k (n % k)) where
      blank : (u && ltb m k) ≡ false → Blank (n / k) (n % k)
      blank f = elim (and-false u (ltb m k) f) [ inl g ↦ inl (sym eu ∙ g) | inr g ↦ inr (rw (← em) (ltb-false m k g)) ]

      pub digits-here : (u && ltb m k) ≡ true → n / k * k + m ≡ from digits (e * k) n
      digits-here t =
          let w = and-true u (ltb m k) t in
          rw em (row_here e (n / k) (n % k) x< (mod-lt n pos) (sym eu ∙ w.0) (rw em at (ltb-true m k w.1)))
          ∙ ap (from digits (e * k)) whole

      pub digits-later : {x y : ℕ} → (u && ltb m k) ≡ false → x ≡ from a e (n / k + 1) → y ≡ from b k 0 → (ltb x e && ltb y k) ≡ true
          → x * k + y ≡ from digits (e * k) n
      digits-later {x} {y} f ex ey t =
          let w = and-true (ltb x e) (ltb y k) t in
          rw (ex, ey)
          (row-later e (n / k) (n % k) x< (mod-lt n pos) (blank f) (rw ex at (ltb-true x e w.0)) (rw ey at (ltb-true y k w.1)))
          ∙ ap (from digits (e * k)) whole

      pub digits-none : {x y : ℕ} → (u && ltb m k) ≡ false → x ≡ from a e (n / k + 1) → y ≡ from b k 0 → (ltb x e && ltb y k) ≡ false
          → e * k ≡ from digits (e * k) n
      digits-none {x} {y} f ex ey t =
          row-none e (n / k) (n % k) x< (mod-lt n pos) (blank f)
          (elim (and-false (ltb x e) (ltb y k) t) [
            | inl g ↦ inl (rw ex at (ltb-false x e g))
            | inr g ↦ inr (rw ey at (ltb-false y k g))
          ])
          ∙ ap (from digits (e * k)) whole
