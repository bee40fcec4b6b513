-- Laws of the plain clock walk: it finds the least minute that matches.
-- Assumes nothing.
use mathlib.Core.Path.{◌≡◌, refl, ap, ◌∙◌}
use Rattle.std.specs.Prelude.{Result, Ok, Err}
use Rattle.refusal.specs.declared.Refusal.{Refusal}
use Rattle.schedule.specs.Local.{max_west}
use mathlib.Core.Bool.{Bool, true, false, cond}
use Prim.Native.Nat.{ℕ, zero, suc, ◌+◌, ◌-◌, ◌≤◌, ◌<◌}
use native.Mathlib.Nat.{lt_of_not-le}
use native.Mathlib.Decide.{dec_le}
use native.Mathlib.Numerals.{add-one, unary_clauses}
use native.Mathlib.Omega.{arith}
use lib.Dec.{leb, ltb}
use borrow.Author.Tests.{lt-ltb, le-ltb, le-leb, lt-leb}
use Rattle.calendar.specs.Dates.{last_minute, cycle_minutes}
use Rattle.schedule.specs.declared.Schedule.{Schedule}
use Rattle.schedule.specs.Match.{matches}
use Rattle.schedule.specs.Search.{least_of, from}
use Rattle.schedule.specs.Next.{can_fire}
use Rattle.schedule.specs.Local.{matches_in, firing_from_in, firing_after_in, next_after_in}
use Rattle.schedule.specs.Clocks.{clock, if_found, clock_after_in}
use Rattle.schedule.proofs.Search.{from-same}
use Rattle.schedule.proofs.LocalTheorems.{utc-on}
use Rattle.schedule.specs.Refusals.{never_fires, past_the_end}

module _ (s : Schedule) (o : ℕ) where
  -- ---- one minute on

  pub clock-on : (n m : ℕ) → 0 < n → matches_in s o m ≡ false → clock s o n m ≡ clock s o (n - 1) (m + 1)
  unfolding clock
  clock-on zero m h e = absurd (omega arith)
  clock-on (suc n) m h e = rw e (simp unary_clauses)

  pub clock-here : (n m : ℕ) → 0 < n → matches_in s o m ≡ true → clock s o n m ≡ Ok m
  unfolding clock
  clock-here zero m h e = absurd (omega arith)
  clock-here (suc n) m h e = rw e

  -- ---- the least minute

  abbrev least : ℕ → ℕ → ℕ
  least n m = least_of (matches_in s o) n m

  clock-least : (n m : ℕ) → clock s o n m ≡ cond (ltb (least n m) (m + n)) (Ok (least n m)) (Err past_the_end)
  unfolding clock least_of
  clock-least zero m = rw (le-ltb m (m + 0) (omega arith))
  clock-least (suc n) m = rw (add-one m) (go (matches_in s o m) (clock-least n (suc m)))
    where
      end : suc m + n ≡ m + suc n
      end = omega arith

      go : (b : Bool) → clock s o n (suc m) ≡ cond (ltb (least n (suc m)) (suc m + n)) (Ok (least n (suc m))) (Err past_the_end)
          → cond b (Ok m) (clock s o n (suc m))
          ≡ cond (ltb (cond b m (least n (suc m))) (m + suc n)) (Ok (cond b m (least n (suc m)))) (Err past_the_end)
      go true e = rw (lt-ltb m (m + suc n) (omega arith))
      go false e = rw (← end) e

  -- ---- to the calendar's end

  clock-firing : (m : ℕ) → clock s o (last_minute - m) (m + 1) ≡ firing_after_in s o m
  unfolding firing_after_in firing_from_in from clock least_of
  clock-firing m = elim (dec_le m last_minute) [ yes h ↦ on h | no h ↦ off (lt_of_not-le h) ]
    where
      same : (k : ℕ) → cond (ltb k (last_minute + 1)) (Ok k) (Err past_the_end) ≡ cond (leb k last_minute) (Ok k) (Err past_the_end)
      same k = elim (dec_le k last_minute) [ yes h ↦ rw (lt-ltb k (last_minute + 1) (omega arith), le-leb k last_minute h) | no h ↦ past (lt_of_not-le h) ]
        where
          past : last_minute < k → cond (ltb k (last_minute + 1)) (Ok k) (Err past_the_end) ≡ cond (leb k last_minute) (Ok k) (Err past_the_end)
          past h = rw (le-ltb k (last_minute + 1) (omega arith), lt-leb k last_minute h)

      on : m ≤ last_minute → clock s o (last_minute - m) (m + 1) ≡ firing_after_in s o m
      on h =
          let e : last_minute + 1 - (m + 1) ≡ last_minute - m = omega arith in
          let f : m + 1 + (last_minute - m) ≡ last_minute + 1 = omega arith in
          clock-least (last_minute - m) (m + 1) ∙ rw (e, f) (same (least (last_minute - m) (m + 1)))

      off : last_minute < m → clock s o (last_minute - m) (m + 1) ≡ firing_after_in s o m
      off h =
          let e : last_minute + 1 - (m + 1) ≡ 0 = omega arith in
          let f : last_minute - m ≡ 0 = omega arith in
          rw (e, f, lt-leb (m + 1) last_minute (omega arith))

module _ (s : Schedule) where
  -- ---- over the whole cycle

  found : (later : Result ℕ Refusal) → if_found (clock s max_west cycle_minutes 0) later ≡ cond (can_fire s) later (Err never_fires)
  unfolding can_fire from if_found
  found later =
      rw (clock-least s max_west cycle_minutes 0) (go (ltb (least s max_west cycle_minutes 0) cycle_minutes))
      ∙ ap (λ (n : ℕ). cond (ltb n cycle_minutes) later (Err never_fires)) (from-same (matches_in s max_west) (matches s) cycle_minutes 0 (omega arith) (λ k u v. utc-on s k (omega arith)))
    where
      go : (b : Bool) → if_found (cond b (Ok (least s max_west cycle_minutes 0)) (Err past_the_end)) later ≡ cond b later (Err never_fires)
      go true = refl
      go false = refl

  -- the clock and the quick search agree, at every minute and under every offset, whatever bits the sets have
  pub slow-agrees : (o m : ℕ) → clock_after_in s o m ≡ next_after_in s o m
  unfolding clock_after_in next_after_in
  slow-agrees o m = found (clock s o (last_minute - m) (m + 1)) ∙ rw (clock-firing s o m)
