-- Laws of the next firing under an offset: the search goes over local minutes, and what it finds is carried back to UTC.
-- Assumes nothing.
use mathlib.Core.Path.{◌≡◌, ◌∙◌}
use Rattle.std.specs.Prelude.{Ok, Err}
use Rattle.schedule.specs.Local.{max_west}
use mathlib.Core.Bool.{true, false, ◌&&◌}
use mathlib.Core.Logic.{◌⊎◌, inl, inr}
use Prim.Native.Nat.{ℕ, ◌+◌, ◌-◌, ◌≤◌, ◌<◌}
use native.Mathlib.Nat.{lt_of_not-le}
use native.Mathlib.Decide.{dec_le}
use native.Mathlib.Omega.{arith}
use lib.Dec.{leb}
use borrow.Author.Tests.{leb-true, leb-false, le-leb, lt-leb}
use Rattle.calendar.specs.Dates.{last_minute}
use Rattle.calendar.proofs.Tests.{and-true, and-false}
use Rattle.schedule.specs.declared.Schedule.{Schedule}
use Rattle.schedule.specs.Match.{matches}
use Rattle.schedule.specs.Search.{from}
use Rattle.schedule.specs.Local.{matches_in, firing_from_in}
use Rattle.schedule.proofs.Search.{Least, least-from, from-least, from-none, from_past, from-skip}
use Rattle.schedule.proofs.LocalMinutes.{matches-before, matches-at, matches-after}
use Rattle.schedule.specs.Refusals.{past_the_end}

module _ (s : Schedule) (o : ℕ) where
  -- ---- a minute m whose local minute is l: n is the least local minute from there on
  module _ {l m n : ℕ} (e : m + o ≡ l + max_west) (h : l ≤ last_minute) (k : m ≤ last_minute) (f : n ≡ from (matches s) (last_minute + 1) l) where
    least : Least (matches s) (last_minute + 1) l n
    least = rw f (from-least (matches s) (last_minute + 1) l (omega arith))

    none_before : (i : ℕ) → m ≤ i → (l + (i - m) ≤ last_minute → l + (i - m) < n) → matches_in s o i ≡ false
    none_before i u v =
        elim (dec_le (l + (i - m)) last_minute) [
          | yes w ↦ matches-at o i s (l + (i - m)) (omega arith) w ∙ least.none (l + (i - m)) (omega arith) (v w)
          | no w ↦ let x = lt_of_not-le w in matches-after o i s (omega arith)
        ]

    pub firing-at : (leb n last_minute && leb (m + (n - l)) last_minute) ≡ true → Ok (m + (n - l)) ≡ firing_from_in s o m
    unfolding firing_from_in
    firing-at t =
        let w = and-true (leb n last_minute) (leb (m + (n - l)) last_minute) t in
        let a = leb-true n last_minute w.0 in
        let b = leb-true (m + (n - l)) last_minute w.1 in
        let x : m + (n - l) ≡ from (matches_in s o) (last_minute + 1) m =
        least-from (omega arith)
        (record {
          low = omega arith;
          high = omega (arith, b);
          passes = λ u. matches-at o (m + (n - l)) s n (omega (arith, least.low)) a ∙ least.passes (omega arith);
          none = λ i u v. none_before i u (λ _. omega (arith, least.low));
        })
        in
        rw (← x, le-leb (m + (n - l)) last_minute b)

    pub firing-none : (leb n last_minute && leb (m + (n - l)) last_minute) ≡ false → Err past_the_end ≡ firing_from_in s o m
    unfolding firing_from_in
    firing-none t = let x = from-none (matches_in s o) (last_minute + 1) m (omega arith) (λ i u v. none_before i u (λ w. late i u v w (and-false (leb n last_minute) (leb (m + (n - l)) last_minute) t))) in rw (← x)
      where
        late : (i : ℕ) → m ≤ i → i < last_minute + 1 → l + (i - m) ≤ last_minute → (leb n last_minute ≡ false) ⊎ (leb (m + (n - l)) last_minute ≡ false)
            → l + (i - m) < n
        late i u v w (inl g) = omega (arith, leb-false n last_minute g)
        late i u v w (inr g) = omega (arith, leb-false (m + (n - l)) last_minute g, least.low)

  -- ---- off the calendar

  -- below zero locally: the search may begin at the local minute 0
  pub firing-skip : (m : ℕ) → m + o < max_west → firing_from_in s o (max_west - o) ≡ firing_from_in s o m
  unfolding firing_from_in
  firing-skip m h =
      rw (from-skip (matches_in s o) (last_minute + 1) m (max_west - o) (omega arith) (omega arith) (λ i u v. matches-before o i s (omega arith)))

  -- past the calendar locally
  pub firing-past : (m : ℕ) → last_minute + max_west < m + o → m ≤ last_minute → Err past_the_end ≡ firing_from_in s o m
  unfolding firing_from_in
  firing-past m h k =
      let x = from-none (matches_in s o) (last_minute + 1) m (omega arith) (λ i u v. matches-after o i s (omega arith)) in
      rw (← x)

  -- past it in UTC
  pub firing-end : (m : ℕ) → last_minute < m → Err past_the_end ≡ firing_from_in s o m
  unfolding firing_from_in
  firing-end m h = rw (← from_past (matches_in s o) (last_minute + 1) m (omega arith), lt-leb m last_minute h)
