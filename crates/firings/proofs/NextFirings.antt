-- The first firing of an entry after a minute, by what the schedule says is its next.
-- Assumes nothing.
use mathlib.Core.Path.{◌≡◌, sym, ap, ◌∙◌}
use mathlib.Core.Bool.{Bool, true}
use Prim.Native.Nat.{ℕ, ◌+◌, ◌≤◌, ◌<◌}
use native.Mathlib.Nat.{lt_of_not-le}
use native.Mathlib.Decide.{dec_le}
use native.Mathlib.Omega.{arith}
use lib.IntN.{ℤ}
use Rattle.std.specs.Prelude.{Result, Ok, Err}
use Rattle.refusal.specs.declared.Refusal.{Refusal}
use Rattle.octets.specs.Search.{from}
use Rattle.octets.proofs.Search.{from-least, least-from, from-none, from-same}
use Rattle.calendar.specs.Dates.{last_minute}
use Rattle.schedule.specs.declared.Schedule.{Schedule}
use Rattle.schedule.specs.Local.{biased_offset, matches_in, next_after_in}
use Rattle.schedule.proofs.Theorems.{next-at-in, next-is-in}
use Rattle.line.specs.declared.time.When.TheVariants.{Reboot, Timed}
use Rattle.crontab.specs.declared.entry.Entry.{Entry}
use Rattle.crontab.specs.Firings.{fires_at}
use Rattle.octets.specs.Passing.{passing_up_to}
use Rattle.firings.specs.Keys.{minute_or_end}
use Rattle.octets.proofs.Passing.{up-skip}

module _ (e : Entry) (m : ℕ) (on : m ≤ last_minute) where
  -- an `@reboot` entry has none
  pub boot-none : e.when ≡ Reboot → last_minute + 1 ≡ from (fires_at e) (last_minute + 1) (m + 1)
  unfolding fires_at
  boot-none w = from-none (fires_at e) (last_minute + 1) (m + 1) (omega arith) (λ k _ _. rw w)

  module _ (s : Schedule) where
    abbrev p : ℕ → Bool
    p = matches_in s (biased_offset e.offset)

    abbrev n : ℕ
    n = from p (last_minute + 1) (m + 1)

    timed : e.when ≡ Timed s → n ≡ from (fires_at e) (last_minute + 1) (m + 1)
    unfolding fires_at
    timed w = from-same p (fires_at e) (last_minute + 1) (m + 1) (omega arith) (λ k _ _. rw w)

    timed-at : e.when ≡ Timed s → (k : ℕ) → next_after_in s (biased_offset e.offset) m ≡ Ok k → k ≡ from (fires_at e) (last_minute + 1) (m + 1)
    timed-at w k x =
        let (low, high, t, none) = next-is-in s (biased_offset e.offset) m k x in
        least-from (omega arith) (record { low = omega arith; high = omega arith; passes = λ _. t; none = λ i u v. none i (omega arith) v })
        ∙ timed w

    -- another answer is that there is none
    timed-none : e.when ≡ Timed s → (next_after_in s (biased_offset e.offset) m ≡ Ok n → ⊥) → last_minute + 1 ≡ from (fires_at e) (last_minute + 1) (m + 1)
    timed-none w other =
        let l = from-least p (last_minute + 1) (m + 1) (omega arith) in
        elim (dec_le n last_minute) [
          | yes h ↦ absurd (other (next-at-in s (biased_offset e.offset) m n (omega (arith, l.low)) h (l.passes (omega arith)) (λ k u v. l.none k (omega arith) v)))
          | no h ↦ last (lt_of_not-le h) l.high ∙ timed w
        ]
      where
        last : last_minute < n → n ≤ last_minute + 1 → last_minute + 1 ≡ n
        last h k = omega arith

    pub timed-first : e.when ≡ Timed s → (x : Result ℕ Refusal) → next_after_in s (biased_offset e.offset) m ≡ x → minute_or_end x ≡ from (fires_at e) (last_minute + 1) (m + 1)
    unfolding minute_or_end
    timed-first w (Ok k) x = timed-at w k x
    timed-first w (Err refusal) x = timed-none w (λ y. let z : ◌≡◌ {A = ℕ} 0 1 = cc in omega arith)

    -- such an entry fires by its schedule
    pub timed-fires : e.when ≡ Timed s → fires_at e m ≡ true → matches_in s (biased_offset e.offset) m ≡ true
    unfolding fires_at
    timed-fires w f = rw w at f

-- under an offset that is another's, read back
pub next-same : {y z : ℤ} → y ≡ z → (s : Schedule) (m : ℕ) {r : Result ℕ Refusal} → r ≡ next_after_in s (biased_offset y) m → next_after_in s (biased_offset z) m ≡ r
next-same e s m p = sym (p ∙ ap (λ (x : ℤ). next_after_in s (biased_offset x) m) e)

pub fires-same : {y z : ℤ} → y ≡ z → (s : Schedule) (m : ℕ) → matches_in s (biased_offset z) m ≡ true → matches_in s (biased_offset y) m ≡ true
fires-same e s m p = ap (λ (x : ℤ). matches_in s (biased_offset x) m) e ∙ p

-- ---- what the first firing is

-- n is the first firing from m on, or the minute after the calendar's last; no firing is passed over
pub record First (e : Entry) (m n : ℕ) : Type 0 where
  pub low : m ≤ n
  pub high : n ≤ last_minute + 1
  pub fires : n ≤ last_minute → fires_at e n ≡ true
  pub skip : (b : ℕ) → passing_up_to (fires_at e) b m ≡ passing_up_to (fires_at e) b n

pub first-from : (e : Entry) (m n : ℕ) → m ≤ last_minute + 1 → n ≡ from (fires_at e) (last_minute + 1) m → First e m n
first-from e m n h q =
    let l = rw (sym q) at (from-least (fires_at e) (last_minute + 1) m h) in
    record {
      low = l.low;
      high = l.high;
      fires = λ k. l.passes (omega arith);
      skip = λ b. up-skip (fires_at e) b m n l.low l.none;
    }
