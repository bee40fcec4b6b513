-- Laws of local minutes: the three places where one can lie, and what matches there.
-- Assumes nothing.
use mathlib.Core.Path.{◌≡◌, ap, ◌∙◌}
use Rattle.schedule.specs.Local.{max_west}
use mathlib.Core.Bool.{false}
use Prim.Native.Nat.{ℕ, ◌+◌, ◌-◌, ◌≤◌, ◌<◌}
use native.Mathlib.Nat.{lt_of_not-le}
use native.Mathlib.Decide.{dec_le}
use native.Mathlib.Omega.{arith}
use borrow.Author.Tests.{lt-ltb, le-ltb, le-leb, lt-leb}
use Rattle.calendar.specs.Dates.{last_minute}
use Rattle.schedule.specs.declared.Schedule.{Schedule}
use Rattle.schedule.specs.declared.local.LocalMinute.{LocalMinute}
use Rattle.schedule.specs.declared.local.LocalMinute.TheVariants.{Before, At, After}
use Rattle.schedule.specs.Match.{matches}
use Rattle.schedule.specs.Local.{local_of, matches_in}

module _ (o m : ℕ) where
  pub local-before : m + o < max_west → local_of o m ≡ Before
  unfolding local_of
  local-before h = rw (lt-ltb (m + o) max_west h)

  pub local_at : (l : ℕ) → m + o ≡ l + max_west → l ≤ last_minute → local_of o m ≡ At l
  unfolding local_of
  local_at l e h =
      let f : l + max_west - max_west ≡ l = omega arith in
      rw (e, le-ltb (l + max_west) max_west (omega arith), le-leb (l + max_west) (last_minute + max_west) (omega arith), f)

  pub local-after : last_minute + max_west < m + o → local_of o m ≡ After
  unfolding local_of
  local-after h = rw (le-ltb (m + o) max_west (omega arith), lt-leb (m + o) (last_minute + max_west) h)

  -- there is no fourth place
  pub by_place : {A : Type 0} → (m + o < max_west → A) → ((l : ℕ) → m + o ≡ l + max_west → l ≤ last_minute → A) → (last_minute + max_west < m + o → A) → A
  by_place before at after =
      elim (dec_le max_west (m + o)) [
        | no h ↦ before (lt_of_not-le h)
        | yes h ↦
            elim (dec_le (m + o) (last_minute + max_west)) [
              | yes k ↦ at (m + o - max_west) (omega arith) (omega arith)
              | no k ↦ after (lt_of_not-le k)
            ]
      ]

  -- ---- and back: where the minute lies that is told

  abbrev number : LocalMinute → ℕ
  number Before = 0
  number (At l) = l + 2
  number After = 1

  pub is-before : Before ≡ local_of o m → m + o < max_west
  is-before e =
      by_place (λ h. h)
      (λ l f h. absurd (let z : 0 ≡ l + 2 = ap number (e ∙ local_at l f h) in omega arith))
      (λ h. absurd (let z : ◌≡◌ {A = ℕ} 0 1 = ap number (e ∙ local-after h) in omega arith))

  pub is_at : (l : ℕ) → At l ≡ local_of o m → (m + o ≡ l + max_west) × (l ≤ last_minute)
  is_at l e =
      by_place
      (λ h. absurd (let z : l + 2 ≡ 0 = ap number (e ∙ local-before h) in omega arith))
      (λ k f h. let z : l + 2 ≡ k + 2 = ap number (e ∙ local_at k f h) in (omega arith, omega arith))
      (λ h. absurd (let z : l + 2 ≡ 1 = ap number (e ∙ local-after h) in omega arith))

  pub is-after : After ≡ local_of o m → last_minute + max_west < m + o
  is-after e =
      by_place
      (λ h. absurd (let z : ◌≡◌ {A = ℕ} 1 0 = ap number (e ∙ local-before h) in omega arith))
      (λ l f h. absurd (let z : 1 ≡ l + 2 = ap number (e ∙ local_at l f h) in omega arith))
      (λ h. h)

  -- ---- what matches

  module _ (s : Schedule) where
    pub matches-before : m + o < max_west → matches_in s o m ≡ false
    unfolding matches_in
    matches-before h = rw (local-before h)

    pub matches-at : (l : ℕ) → m + o ≡ l + max_west → l ≤ last_minute → matches_in s o m ≡ matches s l
    unfolding matches_in
    matches-at l e h = rw (local_at l e h)

    pub matches-after : last_minute + max_west < m + o → matches_in s o m ≡ false
    unfolding matches_in
    matches-after h = rw (local-after h)
