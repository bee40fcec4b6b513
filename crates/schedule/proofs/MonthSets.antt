-- Laws of a month's days as one set: the weekdays' set goes on week by week, and is moved to the weekday of the first.
-- Assumes nothing.
use mathlib.Core.Path.{◌≡◌, refl, sym, ap, ◌∙◌}
use mathlib.Core.Bool.{Bool, true, false, cond, not, ◌&&◌, ◌||◌}
use Prim.Native.Nat.{ℕ, ◌+◌, ◌-◌, ◌*◌, ◌/◌, ◌%◌, ◌^◌, ◌≤◌, ◌<◌}
use native.Mathlib.Omega.{arith}
use lib.Bits.{bit_and, bit_or, and_le_r}
use lib.Pow.{shl-shr, shr-shr}
use lib.Dec.{T}
use Rattle.octets.specs.Sets.{has_bit}
use Rattle.octets.proofs.LeastBit.{shifted-has}
use Rattle.octets.proofs.Together.{and-has, or-has}
use Rattle.calendar.proofs.Tests.{every, at_each}
use Rattle.schedule.specs.declared.Schedule.{Schedule}
use Rattle.calendar.specs.Dates.{weekday_of}
use Rattle.schedule.specs.Match.{both_must, by_day_rule, matches_day}
use Rattle.schedule.specs.Search.{from}
use Rattle.schedule.specs.Days.{matches_in_month, weekly, month_set}
use Rattle.schedule.proofs.Search.{from-least, least-from}

-- ---- week by week

alike : Bool → Bool → Bool
alike true b = b
alike false b = not b

alike_same : (a b : Bool) → T (alike a b) → a ≡ b
unfolding alike
alike_same true true t = refl
alike_same true false t = absurd t
alike_same false true t = absurd t
alike_same false false t = refl

-- every set of seven, at every day of six weeks
weeks-right : T (every (λ v. every (λ n. alike (has_bit (v * 34630287489) n) (has_bit v (n % 7))) 42) 128)
unfolding alike has_bit
weeks-right = tt

week-has : (v n : ℕ) → v < 128 → n < 42 → has_bit (v * 34630287489) n ≡ has_bit v (n % 7)
week-has v n h k =
    alike_same _ _
    (at_each (λ n. alike (has_bit (v * 34630287489) n) (has_bit v (n % 7))) 42
    (at_each (λ v. every (λ n. alike (has_bit (v * 34630287489) n) (has_bit v (n % 7))) 42) 128 weeks-right v h) n k)

-- the bits of 127
seven : T (every (λ n. has_bit 127 n) 7)
unfolding has_bit
seven = tt

pub weekly-has : (set n : ℕ) → n < 42 → has_bit (weekly set) n ≡ has_bit set (n % 7)
unfolding weekly
weekly-has set n h =
    week-has (bit_and set 127) n (omega (arith, and_le_r set 127)) h
    ∙ and-has set 127 (n % 7)
    ∙ rw (true-is (has_bit 127 (n % 7)) (at_each (λ k. has_bit 127 k) 7 seven (n % 7) (omega arith))) (and_right (has_bit set (n % 7)))
  where
    true-is : (b : Bool) → T b → b ≡ true
    true-is true t = refl
    true-is false t = absurd t

    and_right : (b : Bool) → (b && true) ≡ b
    and_right true = refl
    and_right false = refl

-- ---- a month

-- a set moved up by one
up-has : (x d : ℕ) → 1 ≤ d → has_bit (x * 2) d ≡ has_bit x (d - 1)
unfolding has_bit
up-has x d h =
    let e : d ≡ 1 + (d - 1) = omega arith in
    let half : x * 2 / 2 ^ d ≡ x / 2 ^ (d - 1) =
    ap (λ (n : ℕ). x * 2 / 2 ^ n) e ∙ sym (shr-shr (x * 2) 1 (d - 1)) ∙ ap (λ (y : ℕ). y / 2 ^ (d - 1)) (shl-shr x 1)
    in
    rw half

-- a day of a month that begins on weekday w
pub month-has : (s : Schedule) (w d : ℕ) → w < 7 → 1 ≤ d → d ≤ 31
    → has_bit (month_set s w) d ≡ by_day_rule s (has_bit s.days d) (has_bit s.weekdays ((w + (d - 1)) % 7))
unfolding month_set by_day_rule
month-has s w d h k l = go (both_must s)
  where
    set : ℕ
    set = weekly s.weekdays / 2 ^ w * 2

    by-weekday : has_bit set d ≡ has_bit s.weekdays ((w + (d - 1)) % 7)
    by-weekday = up-has (weekly s.weekdays / 2 ^ w) d k ∙ shifted-has (weekly s.weekdays) w (d - 1) ∙ weekly-has s.weekdays (w + (d - 1)) (omega arith)

    go : (b : Bool)
        → has_bit (cond b (bit_and s.days set) (bit_or s.days set)) d
        ≡ cond b (has_bit s.days d && has_bit s.weekdays ((w + (d - 1)) % 7)) (has_bit s.days d || has_bit s.weekdays ((w + (d - 1)) % 7))
    go true = and-has s.days set d ∙ rw by-weekday
    go false = or-has s.days set d ∙ rw by-weekday

-- ---- the least day of a month

module _ (s : Schedule) (month first end : ℕ) (chosen : has_bit s.months month ≡ true) (short : end ≤ first + 31) where
  set-day : (day : ℕ) → first ≤ day → day < end → matches_in_month s month first day ≡ has_bit (month_set s ((first + 4) % 7)) (day - first + 1)
  unfolding matches_in_month matches_day weekday_of
  set-day day h k =
      let e : ((first + 4) % 7 + (day - first + 1 - 1)) % 7 ≡ (day + 4) % 7 = omega arith in
      rw chosen (sym (month-has s ((first + 4) % 7) (day - first + 1) (omega arith) (omega arith) (omega arith) ∙ rw e))

  pub day-by-set : (at : ℕ) → first ≤ at → at ≤ end
      → first + from (has_bit (month_set s ((first + 4) % 7))) (end - first + 1) (at - first + 1) - 1 ≡ from (matches_in_month s month first) end at
  day-by-set at h k =
      let n = from (has_bit (month_set s ((first + 4) % 7))) (end - first + 1) (at - first + 1) in
      let l = from-least (has_bit (month_set s ((first + 4) % 7))) (end - first + 1) (at - first + 1) (omega arith) in
      least-from k
      (record {
        low = omega (arith, l.low);
        high = omega (arith, l.high, l.low);
        passes =
            λ below.
            let e : first + n - 1 - first + 1 ≡ n = omega (arith, l.low) in
            set-day (first + n - 1) (omega (arith, l.low)) below ∙ rw e (l.passes (omega arith));
        none =
            λ day from_at below.
            set-day day (omega arith) (omega (arith, l.high)) ∙ l.none (day - first + 1) (omega arith) (omega arith);
      })
