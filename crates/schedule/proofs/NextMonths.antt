-- Laws of the next month that is in the set: in the same year, in the next one, or none before the calendar ends.
-- Assumes nothing.
use mathlib.Core.Path.{◌≡◌}
use mathlib.Core.Bool.{false}
use Prim.Native.Nat.{ℕ, ◌+◌, ◌-◌, ◌/◌, ◌%◌, ◌≤◌, ◌<◌}
use native.Mathlib.Nat.{lt_of_not-le}
use native.Mathlib.Decide.{dec_le}
use native.Mathlib.Omega.{arith}
use Rattle.octets.specs.Sets.{has_bit}
use Rattle.schedule.specs.declared.Schedule.{Schedule}
use Rattle.schedule.specs.Search.{from}
use Rattle.schedule.specs.Days.{MonthAfter}
use Rattle.schedule.proofs.Search.{from-least}

module _ (s : Schedule) (c : ℕ) (low : 23640 ≤ c) (high : c < 120000) where
  abbrev month : ℕ
  month = c % 12 + 1

  pub same-year : {later : ℕ} → later ≡ from (has_bit s.months) 13 (month + 1) → later < 13 → MonthAfter s c (c - month + later)
  same-year {later} e h =
      let l = from-least (has_bit s.months) 13 (month + 1) (omega arith) in
      record {
        later = omega (arith, l.low);
        within = omega arith;
        none = λ i u v. l.none (i % 12 + 1) (omega arith) (omega arith);
      }

  module _ {later first : ℕ} (e : later ≡ from (has_bit s.months) 13 (month + 1)) (none-later : 13 ≤ later) (f : first ≡ from (has_bit s.months) 13 1) where
    between : (i : ℕ) → c < i → i < c - month + 12 + first → has_bit s.months (i % 12 + 1) ≡ false
    between i u v = elim (dec_le (c / 12 + 1) (i / 12)) [ yes h ↦ next h | no h ↦ this (lt_of_not-le h) ]
      where
        this : i / 12 < c / 12 + 1 → has_bit s.months (i % 12 + 1) ≡ false
        this h = (from-least (has_bit s.months) 13 (month + 1) (omega arith)).none (i % 12 + 1) (omega arith) (omega arith)

        next : c / 12 + 1 ≤ i / 12 → has_bit s.months (i % 12 + 1) ≡ false
        next h =
            let l = from-least (has_bit s.months) 13 1 (omega arith) in
            l.none (i % 12 + 1) (omega arith) (omega (arith, l.high))

    pub next-year : c - month + 12 + first < 120000 → MonthAfter s c (c - month + 12 + first)
    next-year h = record { later = omega (arith, (from-least (has_bit s.months) 13 1 (omega arith)).low); within = omega arith; none = between }

    pub no-year : 120000 ≤ c - month + 12 + first → MonthAfter s c 120000
    no-year h = record { later = high; within = omega arith; none = λ i u v. between i u (omega arith) }
