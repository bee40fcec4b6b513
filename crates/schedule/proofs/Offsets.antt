-- Signed sums with an offset from UTC, as the machine makes them: a minute and an offset are x - 720, where x is the minute and how far the
-- offset is ahead.
-- Assumes nothing.
use mathlib.Core.Path.{◌≡◌, sym, ap, subst, ◌∙◌}
use Rattle.schedule.specs.Local.{max_west}
use Prim.Native.Nat.{ℕ, suc, ◌+◌, ◌-◌, ◌≤◌, ◌<◌}
use native.Mathlib.Nat.{lt_of_not-le}
use native.Mathlib.Decide.{dec_le}
use native.Mathlib.Omega.{arith}
use lib.Dec.{ltb}
use lib.IntN.{ℤ, pos, negsuc, sub_ℕ, ◌+ℤ◌, ◌-ℤ◌}
use lib.Signed.{lt_z}
use mir.Syntax.{w32, w64}
use mir.Val.{SFits, to_z, of_z}
use mir.Facts.{to_z-of_z, to_z_pos, sfits_widen}
use borrow.Author.Tests.{lt-ltb, le-ltb}
use Rattle.calendar.specs.Dates.{last_minute}
use Rattle.schedule.specs.Local.{OffsetInRange, biased_offset}

-- ---- a number less 720

-- what it is, by which of the two is more
pub less-below : (x : ℕ) → x < max_west → sub_ℕ x max_west ≡ negsuc (719 - x)
less-below x h = let e : max_west - suc x ≡ 719 - x = omega arith in rw (lt-ltb x max_west h, e)

pub less-on : (x : ℕ) → max_west ≤ x → sub_ℕ x max_west ≡ pos (x - max_west)
less-on x h = rw (le-ltb x max_west h)

sum_less : (m : ℕ) (z : ℤ) → OffsetInRange z → pos m +ℤ z ≡ sub_ℕ (m + biased_offset z) max_west
sum_less m (pos n) h =
    let e : m + biased_offset (pos n) - max_west ≡ m + n = omega arith in
    rw (less-on (m + biased_offset (pos n)) (omega arith), e)
sum_less m (negsuc n) h = elim (dec_le (suc n) m) [ yes k ↦ on k | no k ↦ below (lt_of_not-le k) ]
  where
    on : suc n ≤ m → sub_ℕ m (suc n) ≡ sub_ℕ (m + biased_offset (negsuc n)) max_west
    on k =
        let e : m + biased_offset (negsuc n) - max_west ≡ m - suc n = omega arith in
        rw (less-on (m + biased_offset (negsuc n)) (omega arith), e, le-ltb m (suc n) k)

    below : m < suc n → sub_ℕ m (suc n) ≡ sub_ℕ (m + biased_offset (negsuc n)) max_west
    below k =
        let e : 719 - (m + biased_offset (negsuc n)) ≡ suc n - suc m = omega arith in
        rw (less-below (m + biased_offset (negsuc n)) (omega arith), e, lt-ltb m (suc n) k)

less-fits : (x : ℕ) → x ≤ last_minute + 1560 → SFits w64 (sub_ℕ x max_west)
less-fits x h = elim (dec_le max_west x) [ yes k ↦ rw (less-on x k) (record { sfits = omega arith }) | no k ↦ below (lt_of_not-le k) ]
  where
    below : x < max_west → SFits w64 (sub_ℕ x max_west)
    below k = rw (less-below x k) (record { sfits = omega arith })

less-negative : (x : ℕ) → lt_z (sub_ℕ x max_west) (pos 0) ≡ ltb x max_west
less-negative x = elim (dec_le max_west x) [ yes k ↦ rw (less-on x k, le-ltb x max_west k, le-ltb (x - max_west) 0 (omega arith)) | no k ↦ below (lt_of_not-le k) ]
  where
    below : x < max_west → lt_z (sub_ℕ x max_west) (pos 0) ≡ ltb x max_west
    below k = rw (less-below x k, lt-ltb x max_west k)

less-past : (x : ℕ) → lt_z (pos last_minute) (sub_ℕ x max_west) ≡ ltb (last_minute + max_west) x
less-past x = elim (dec_le max_west x) [ yes k ↦ rw (less-on x k) (on k) | no k ↦ below (lt_of_not-le k) ]
  where
    below : x < max_west → lt_z (pos last_minute) (sub_ℕ x max_west) ≡ ltb (last_minute + max_west) x
    below k = rw (less-below x k, le-ltb (last_minute + max_west) x (omega arith))

    on : max_west ≤ x → ltb last_minute (x - max_west) ≡ ltb (last_minute + max_west) x
    on k = elim (dec_le x (last_minute + max_west)) [ yes i ↦ rw (le-ltb last_minute (x - max_west) (omega arith), le-ltb (last_minute + max_west) x i) | no i ↦ past (lt_of_not-le i) ]
      where
        past : last_minute + max_west < x → ltb last_minute (x - max_west) ≡ ltb (last_minute + max_west) x
        past i = rw (lt-ltb last_minute (x - max_west) (omega arith), lt-ltb (last_minute + max_west) x i)

-- ---- an offset that is passed on

-- an offset that may be fits its bits
pub zone-fits : (z : ℤ) → OffsetInRange z → SFits w32 z
zone-fits (pos n) h = record { sfits = omega arith }
zone-fits (negsuc n) h = record { sfits = omega arith }

-- what a function that is called promises of its offset, which it is passed as bits, holds of the offset itself
pub passed : {A : Type 0} (f : ℤ → A) {z : ℤ} → SFits w32 z → f (to_z w32 (of_z w32 z)) ≡ f z
passed f fits = ap f (to_z-of_z fits)

-- ---- the machine's sum

pub biased-offset-small : (z : ℤ) → OffsetInRange z → biased_offset z ≤ 1560
biased-offset-small (pos n) h = omega arith
biased-offset-small (negsuc n) h = omega arith

pub widened : {z : ℤ} → SFits w32 z → SFits w64 (to_z w32 (of_z w32 z))
widened fits = subst (SFits w64) (sym (to_z-of_z fits)) (sfits_widen tt fits)

module _ {z : ℤ} {m : ℕ} (fits : SFits w32 z) (zone : OffsetInRange z) (on : m ≤ last_minute) where
  abbrev summed : ℤ
  summed = to_z w64 m +ℤ to_z w64 (of_z w64 (to_z w32 (of_z w32 z)))

  sum_is : summed ≡ sub_ℕ (m + biased_offset z) max_west
  sum_is = rw (to_z-of_z {w = w32} fits, to_z-of_z {w = w64} {z = z} (sfits_widen tt fits), to_z_pos w64 {n = m} (omega arith)) (sum_less m z zone)

  pub sum_fits : SFits w64 summed
  sum_fits = rw sum_is (less-fits (m + biased_offset z) (omega (arith, biased-offset-small z zone)))

  sum-read : to_z w64 (of_z w64 summed) ≡ sub_ℕ (m + biased_offset z) max_west
  sum-read = to_z-of_z sum_fits ∙ sum_is

  -- below zero, past the calendar, and on it
  pub sum-negative : lt_z (to_z w64 (of_z w64 summed)) (pos 0) ≡ ltb (m + biased_offset z) max_west
  sum-negative = ap (λ (y : ℤ). lt_z y (pos 0)) sum-read ∙ less-negative (m + biased_offset z)

  pub sum_past : lt_z (pos last_minute) (to_z w64 (of_z w64 summed)) ≡ ltb (last_minute + max_west) (m + biased_offset z)
  sum_past = ap (λ (y : ℤ). lt_z (pos last_minute) y) sum-read ∙ less-past (m + biased_offset z)

  pub sum-on : max_west ≤ m + biased_offset z → to_z w64 (of_z w64 summed) ≡ pos (m + biased_offset z - max_west)
  sum-on h = sum-read ∙ less-on (m + biased_offset z) h

-- ---- an offset behind UTC, negated

behind : (z : ℤ) → OffsetInRange z → biased_offset z < max_west → pos 0 -ℤ z ≡ pos (max_west - biased_offset z)
behind (pos n) zone h = absurd (omega arith)
behind (negsuc n) zone h = let e : 0 + suc n ≡ max_west - (719 - n) = omega arith in ap pos e

module _ {z : ℤ} (fits : SFits w32 z) (zone : OffsetInRange z) (below : biased_offset z < max_west) where
  abbrev negative : ℤ
  negative = pos 0 -ℤ to_z w32 (of_z w32 z)

  negative-is : negative ≡ pos (max_west - biased_offset z)
  negative-is = rw (to_z-of_z {w = w32} fits) (behind z zone below)

  pub negative_fits : SFits w32 negative
  negative_fits = rw negative-is (record { sfits = omega arith })

  pub negative-read : to_z w32 (of_z w32 negative) ≡ pos (max_west - biased_offset z)
  negative-read = to_z-of_z negative_fits ∙ negative-is
