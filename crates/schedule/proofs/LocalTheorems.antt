-- What holds of a schedule's firings under an offset from UTC, with no search in it; proofs/Theorems lists them.
-- Assumes nothing.
use mathlib.Core.Path.{◌≡◌, refl, sym, ap, ◌∙◌}
use Rattle.std.specs.Prelude.{Ok, Err}
use Rattle.refusal.specs.declared.Refusal.{Refusal}
use Rattle.schedule.specs.Local.{max_west}
use mathlib.Core.Bool.{Bool, true, false, cond, ◌&&◌, true≢false}
use mathlib.Core.Logic.{◌⊎◌, inl, inr}
use Prim.Native.Nat.{ℕ, ◌+◌, ◌-◌, ◌≤◌, ◌<◌}
use native.Mathlib.Nat.{lt_of_not-le}
use native.Mathlib.Decide.{dec_le}
use native.Mathlib.Omega.{arith}
use lib.Dec.{leb}
use borrow.Author.Tests.{le-leb, lt-leb, lt-ltb, le-ltb, leb-true, leb-false}
use Rattle.calendar.specs.Dates.{last_minute, cycle_minutes}
use Rattle.schedule.specs.declared.Schedule.{Schedule}
use Rattle.schedule.specs.declared.local.LocalMinute.{LocalMinute}
use Rattle.schedule.specs.declared.local.LocalMinute.TheVariants as local
use Rattle.schedule.specs.Match.{matches}
use Rattle.schedule.specs.Search.{from, passes}
use Rattle.schedule.specs.Next.{can_fire, firing_after, next_after, by_then}
use Rattle.schedule.specs.Gap.{gap}
use Rattle.schedule.specs.Local.{local_of, matches_minute, matches_in, firing_from_in, firing_after_in, next_after_in, gap_in, date_in, local_date, matches_local}
use Rattle.schedule.proofs.Search.{Least, least-from, from-least, from-none, from_past, from-same, passes-search, none_passes}
use Rattle.schedule.proofs.Gap.{matching-fires, fires-within, fires-first}
use Rattle.schedule.proofs.LocalMinutes.{by_place, matches-before, matches-at, matches-after}
use Rattle.schedule.specs.Refusals.{never_fires, past_the_end}

-- ---- by dates

pub local-date : (s : Schedule) (o m : ℕ) → matches_local s (local_date o m) ≡ matches_in s o m
unfolding matches_local local_date matches_in matches
local-date s o m = go (local_of o m)
  where
    go : (l : LocalMinute) → matches_local s (date_in l) ≡ matches_minute s l
    go local.Before = refl
    go (local.At l) = refl
    go local.After = refl

-- ---- an offset of 0

-- on the calendar the local minute is the minute itself
pub utc-on : (s : Schedule) (m : ℕ) → m ≤ last_minute → matches_in s max_west m ≡ matches s m
utc-on s m h = matches-at max_west m s m refl h

pub utc-same : (s : Schedule) (m : ℕ) → matches_in s max_west m ≡ (leb m last_minute && matches s m)
utc-same s m = elim (dec_le m last_minute) [ yes h ↦ rw (le-leb m last_minute h) (utc-on s m h) | no h ↦ past (lt_of_not-le h) ]
  where
    past : last_minute < m → matches_in s max_west m ≡ (leb m last_minute && matches s m)
    past h = rw (lt-leb m last_minute h) (matches-after max_west m s (omega arith))

pub utc-next : (s : Schedule) (m : ℕ) → next_after_in s max_west m ≡ next_after s m
unfolding next_after_in firing_after_in firing_from_in next_after firing_after
utc-next s m = ap (λ (n : ℕ). cond (can_fire s) (cond (leb n last_minute) (Ok n) (Err past_the_end)) (Err never_fires)) least
  where
    on : m ≤ last_minute → from (matches_in s max_west) (last_minute + 1) (m + 1) ≡ from (matches s) (last_minute + 1) (m + 1)
    on h = from-same (matches_in s max_west) (matches s) (last_minute + 1) (m + 1) (omega arith) (λ k u v. utc-on s k (omega arith))

    off : last_minute < m → from (matches_in s max_west) (last_minute + 1) (m + 1) ≡ from (matches s) (last_minute + 1) (m + 1)
    off h = sym (from_past (matches_in s max_west) (last_minute + 1) (m + 1) (omega arith)) ∙ from_past (matches s) (last_minute + 1) (m + 1) (omega arith)

    least : from (matches_in s max_west) (last_minute + 1) (m + 1) ≡ from (matches s) (last_minute + 1) (m + 1)
    least = elim (dec_le m last_minute) [ yes h ↦ on h | no h ↦ off (lt_of_not-le h) ]

module _ (s : Schedule) (o : ℕ) where
  -- ---- what matches is on the calendar locally

  on-locally : (n : ℕ) → matches_in s o n ≡ true → (l : ℕ) × (n + o ≡ l + max_west) × (l ≤ last_minute) × (matches s l ≡ true)
  on-locally n t =
      by_place o n
      (λ h. absurd (true≢false (sym t ∙ matches-before o n s h)))
      (λ l e h. (l, e, h, sym (matches-at o n s l e h) ∙ t))
      (λ h. absurd (true≢false (sym t ∙ matches-after o n s h)))

  -- a schedule that matches any minute matches one of the cycle
  pub matching-fires-in : (n : ℕ) → matches_in s o n ≡ true → can_fire s ≡ true
  matching-fires-in n t = let (l, e, h, u) = on-locally n t in matching-fires s l h u

  -- ---- the next firing

  -- the least matching minute after m, up to the calendar's last
  pub next-at-in : (m n : ℕ) → m < n → n ≤ last_minute → matches_in s o n ≡ true
      → ((k : ℕ) → m < k → k < n → matches_in s o k ≡ false) → next_after_in s o m ≡ Ok n
  unfolding next_after_in firing_after_in firing_from_in
  next-at-in m n h k t none =
      let l : Least (matches_in s o) (last_minute + 1) (m + 1) n =
      record { low = omega arith; high = omega arith; passes = λ _. t; none = λ i u v. none i (omega arith) v }
      in
      rw (matching-fires-in n t, ← least-from (omega arith) l, le-leb n last_minute k)

  -- never, where no minute of the cycle matches, whatever the offset
  pub next-never-in : (m : ℕ) → ((k : ℕ) → k < cycle_minutes → matches s k ≡ false) → next_after_in s o m ≡ Err never_fires
  unfolding next_after_in can_fire
  next-never-in m none =
      let e = from-none (matches s) cycle_minutes 0 (omega arith) (λ k _ v. none k v) in
      rw (← e)

  -- past the end, where one matches and none is left
  pub next-past-in : (m : ℕ) → can_fire s ≡ true → ((k : ℕ) → m < k → k ≤ last_minute → matches_in s o k ≡ false) → next_after_in s o m ≡ Err past_the_end
  unfolding next_after_in firing_after_in firing_from_in
  next-past-in m f none = rw f (elim (dec_le m last_minute) [ yes h ↦ rw (← within h) | no h ↦ after (lt_of_not-le h) ])
    where
      within : m ≤ last_minute → last_minute + 1 ≡ from (matches_in s o) (last_minute + 1) (m + 1)
      within h = from-none (matches_in s o) (last_minute + 1) (m + 1) (omega arith) (λ k u v. none k (omega arith) (omega arith))

      after : last_minute < m → (let n = from (matches_in s o) (last_minute + 1) (m + 1) in cond (leb n last_minute) (Ok n) (Err past_the_end)) ≡ Err past_the_end
      after h = rw (← from_past (matches_in s o) (last_minute + 1) (m + 1) (omega arith), lt-leb (m + 1) last_minute (omega arith))

  -- there are two refusals, whatever the minute
  pub next-refused-in : (m : ℕ) (refusal : Refusal) → next_after_in s o m ≡ Err refusal → (refusal ≡ never_fires) ⊎ (refusal ≡ past_the_end)
  unfolding next_after_in firing_after_in firing_from_in
  next-refused-in m refusal e = go (can_fire s) (leb k last_minute) e
    where
      k : ℕ
      k = from (matches_in s o) (last_minute + 1) (m + 1)

      go : (b c : Bool) → cond b (cond c (Ok k) (Err past_the_end)) (Err never_fires) ≡ Err refusal
          → (refusal ≡ never_fires) ⊎ (refusal ≡ past_the_end)
      go true true f = absurd (let z : ◌≡◌ {A = ℕ} 0 1 = cc in omega arith)
      go true false f = inr cc
      go false c f = inl cc

  -- a firing that is told is later, on the calendar, matches, and no minute between does
  pub next-is-in : (m n : ℕ) → next_after_in s o m ≡ Ok n
      → (m < n) × (n ≤ last_minute) × (matches_in s o n ≡ true) × ((k : ℕ) → m < k → k < n → matches_in s o k ≡ false)
  unfolding next_after_in firing_after_in firing_from_in
  next-is-in m n e = go (can_fire s) (leb k last_minute) refl e
    where
      k : ℕ
      k = from (matches_in s o) (last_minute + 1) (m + 1)

      on : k ≤ last_minute → m ≤ last_minute
      on l = elim (dec_le m last_minute) [ yes h ↦ h | no h ↦ absurd (past (lt_of_not-le h)) ]
        where
          past : last_minute < m → ⊥
          past h = let p : m + 1 ≡ k = from_past (matches_in s o) (last_minute + 1) (m + 1) (omega arith) in omega arith

      found : k ≤ last_minute
          → (m < k) × (k ≤ last_minute) × (matches_in s o k ≡ true) × ((i : ℕ) → m < i → i < k → matches_in s o i ≡ false)
      found h =
          let l = from-least (matches_in s o) (last_minute + 1) (m + 1) (omega (arith, on h)) in
          (omega (arith, l.low), h, l.passes (omega arith), (λ i u v. l.none i (omega arith) v))

      go : (b c : Bool) → leb k last_minute ≡ c → cond b (cond c (Ok k) (Err past_the_end)) (Err never_fires) ≡ Ok n
          → (m < n) × (n ≤ last_minute) × (matches_in s o n ≡ true) × ((i : ℕ) → m < i → i < n → matches_in s o i ≡ false)
      go true true r f = let i : k ≡ n = cc in rw i at (found (leb-true k last_minute r))
      go true false r f = absurd (let z : ◌≡◌ {A = ℕ} 0 1 = cc in omega arith)
      go false c r f = absurd (let z : ◌≡◌ {A = ℕ} 0 1 = cc in omega arith)

  pub next-on-calendar-in : (m n : ℕ) → next_after_in s o m ≡ Ok n → n ≤ last_minute
  next-on-calendar-in m n e = (next-is-in m n e).1

  -- Q5: an entry matches a minute after h, up to m, just where its next firing after h comes by m
  pub next-by : (h m : ℕ) → m ≤ last_minute → by_then (next_after_in s o h) m ≡ passes (matches_in s o) h m
  unfolding next_after_in firing_after_in firing_from_in
  next-by h m on = go (can_fire s) refl (leb k last_minute) refl
    where
      k : ℕ
      k = from (matches_in s o) (last_minute + 1) (h + 1)

      go : (b : Bool) → can_fire s ≡ b → (c : Bool) → leb k last_minute ≡ c
          → by_then (cond b (cond c (Ok k) (Err past_the_end)) (Err never_fires)) m ≡ passes (matches_in s o) h m
      go true f true e = sym (passes-search (matches_in s o) h m (last_minute + 1) (omega arith))
      go true f false e =
          sym (passes-search (matches_in s o) h m (last_minute + 1) (omega arith) ∙ lt-leb k m (omega (arith, leb-false k last_minute e)))
      go false f c e = sym (none_passes (matches_in s o) h m (λ i u v. none i (matches_in s o i) refl))
        where
          none : (i : ℕ) (b : Bool) → matches_in s o i ≡ b → matches_in s o i ≡ false
          none i true t = absurd (true≢false (sym (matching-fires-in i t) ∙ f))
          none i false t = t

  -- ---- the gap

  pub gap-on : (t : ℕ) → max_west ≤ t + o → gap_in o t ≡ gap
  gap-on t h = let e : gap + 0 ≡ gap = omega arith in rw (le-ltb (t + o) max_west h) e

  pub gap-before : (t : ℕ) → t + o < max_west → gap_in o t ≡ gap + max_west
  gap-before t h = rw (lt-ltb (t + o) max_west h)

  -- A schedule that can fire has a matching minute in each window of `gap_in` minutes that ends on the calendar locally.
  pub fires-within-in : can_fire s ≡ true → (t : ℕ) → t + gap_in o t + o ≤ last_minute + max_west
      → (m : ℕ) × (t < m) × (m ≤ t + gap_in o t) × (matches_in s o m ≡ true)
  fires-within-in f t h = elim (dec_le max_west (t + o)) [ yes k ↦ on k | no k ↦ below (lt_of_not-le k) ]
    where
      on : max_west ≤ t + o → (m : ℕ) × (t < m) × (m ≤ t + gap_in o t) × (matches_in s o m ≡ true)
      on k =
          let e = gap-on t k in
          let (n, u, v, w) = fires-within s f (t + o - max_west) (omega arith) in (
            n + max_west - o,
            omega arith,
            omega arith,
            matches-at o (n + max_west - o) s n (omega arith) (omega arith) ∙ w,
          )

      below : t + o < max_west → (m : ℕ) × (t < m) × (m ≤ t + gap_in o t) × (matches_in s o m ≡ true)
      below k =
          let e = gap-before t k in
          let (n, u, v, w) = fires-within s f 0 (omega arith) in (
            n + max_west - o,
            omega arith,
            omega arith,
            matches-at o (n + max_west - o) s n (omega arith) (omega arith) ∙ w,
          )

  -- A firing that is told is at most `gap` minutes ahead, from before 1970 locally too: the first one there comes in 27 years.
  pub next-within-in : (t n : ℕ) → next_after_in s o t ≡ Ok n → n ≤ t + gap
  next-within-in t n e = elim (dec_le max_west (t + o)) [ yes k ↦ elim (dec_le (t + gap + o) (last_minute + max_west)) [ yes h ↦ near k h | no h ↦ far (lt_of_not-le h) ] | no k ↦ below (lt_of_not-le k) ]
    where
      -- it comes no later than any later minute that matches
      by : (m : ℕ) → t < m → matches_in s o m ≡ true → n ≤ m
      by m u w =
          let (_, _, _, none) = next-is-in t n e in
          elim (dec_le n m) [ yes j ↦ j | no j ↦ absurd (true≢false (sym w ∙ none m u (lt_of_not-le j))) ]

      fires : can_fire s ≡ true
      fires = matching-fires-in n (next-is-in t n e).2

      far : last_minute + max_west < t + gap + o → n ≤ t + gap
      far h = let (l, p, q, _) = on-locally n (next-is-in t n e).2 in omega arith

      near : max_west ≤ t + o → t + gap + o ≤ last_minute + max_west → n ≤ t + gap
      near k h =
          let (m, u, v, w) = fires-within-in fires t (omega (arith, gap-on t k)) in
          omega (arith, by m u w, gap-on t k)

      below : t + o < max_west → n ≤ t + gap
      below k =
          let (l, u, w) = fires-first s fires in
          let m = l + max_west - o in
          omega (arith, by m (omega arith) (matches-at o m s l (omega arith) (omega arith) ∙ w))

-- in UTC too
pub next-within : (s : Schedule) (t n : ℕ) → next_after s t ≡ Ok n → n ≤ t + gap
next-within s t n e = next-within-in s max_west t n (utc-next s t ∙ e)
