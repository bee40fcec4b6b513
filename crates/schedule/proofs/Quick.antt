-- The next firing as a function that antt computes quickly, month by month, and that it is the definition's where it finds one.
-- Assumes nothing.
use mathlib.Core.Path.{◌≡◌, refl, sym}
use mathlib.Core.Bool.{Bool, true, false, cond, ◌&&◌}
use Prim.Native.Nat.{ℕ, zero, suc, ◌+◌, ◌-◌, ◌*◌, ◌/◌, ◌%◌, ◌<◌}
use native.Mathlib.Omega.{arith}
use lib.Dec.{ltb, lit<}
use borrow.Author.Tests.{ltb-true, ltb-false, lt-ltb}
use Rattle.std.specs.Prelude.{Ok}
use Rattle.calendar.specs.Dates.{calendar_days, last_minute, date_at}
use Rattle.calendar.proofs.Tests.{and-true}
use Rattle.calendar.proofs.Months.{length_of}
use Rattle.schedule.specs.declared.Schedule.{Schedule}
use Rattle.schedule.specs.Match.{matches_on, matches_at}
use Rattle.schedule.specs.Search.{from}
use Rattle.schedule.specs.Days.{matches_in_month}
use Rattle.schedule.specs.Next.{firing_after}
use Rattle.schedule.proofs.Search.{digits-here, digits-later}
use Rattle.schedule.proofs.Days.{Searching, searching-starts, searching-found, searching-on}
use Rattle.schedule.proofs.Firing.{firing-found}

-- n months from number c on; the number of the calendar's days where nothing is found in them
unfoldable pub months_from : Schedule → ℕ → ℕ → ℕ → ℕ → ℕ
months_from s zero c first at = calendar_days
months_from s (suc n) c first at =
    let end = first + length_of c in
    let found = from (matches_in_month s (c % 12 + 1) first) end at in
    let later = months_from s n (c + 1) end end in
    let here = cond (ltb found end) found later in
    cond (ltb at calendar_days) here calendar_days

months-found : (s : Schedule) (n : ℕ) {day c first at : ℕ} → Searching s day c first at
    → months_from s n c first at < calendar_days → months_from s n c first at ≡ from (matches_on s) calendar_days day
unfolding months_from
months-found s zero g h = absurd (omega arith)
months-found s (suc n) {day} {c} {first} {at} g h = go (ltb at calendar_days) (ltb f (first + length_of c)) refl refl (λ k l. months-found s n k l) h
  where
    f : ℕ
    f = from (matches_in_month s (c % 12 + 1) first) (first + length_of c) at

    go : (a b : Bool) → ltb at calendar_days ≡ a → ltb f (first + length_of c) ≡ b
        → (Searching s day (c + 1) (first + length_of c) (first + length_of c)
        → months_from s n (c + 1) (first + length_of c) (first + length_of c) < calendar_days
        → months_from s n (c + 1) (first + length_of c) (first + length_of c) ≡ from (matches_on s) calendar_days day)
        → cond a (cond b f (months_from s n (c + 1) (first + length_of c) (first + length_of c))) calendar_days < calendar_days
        → cond a (cond b f (months_from s n (c + 1) (first + length_of c) (first + length_of c))) calendar_days ≡ from (matches_on s) calendar_days day
    go true true p q more h = searching-found g (ltb-true _ _ p) refl refl (ltb-true _ _ q)
    go true false p q more h = more (searching-on g (ltb-true _ _ p) refl refl (ltb-false _ _ q)) h
    go false b p q more h = absurd (omega arith)

unfoldable pub day_from : Schedule → ℕ → ℕ → ℕ
day_from s n day = let d = date_at (day * 1440) in months_from s n (d.year * 12 + (d.month - 1)) (day - (d.day - 1)) day

-- the next firing within n months
unfoldable pub quick : Schedule → ℕ → ℕ → ℕ
quick s n m =
    let start = m + 1 in
    let time = from (matches_at s) 1440 (start % 1440) in
    let later = day_from s n (start / 1440 + 1) * 1440 + from (matches_at s) 1440 0 in
    cond (matches_on s (start / 1440) && ltb time 1440) (start / 1440 * 1440 + time) later

day-found : (s : Schedule) (n day : ℕ) → day < calendar_days → day_from s n day < calendar_days
    → day_from s n day ≡ from (matches_on s) calendar_days day
unfolding day_from
day-found s n day h k = months-found s n (searching-starts s day h) k

-- where it finds one, that is the next firing
pub quick-right : (s : Schedule) (n m : ℕ) → m < last_minute → (m + 1) / 1440 + 1 < calendar_days
    → day_from s n ((m + 1) / 1440 + 1) < calendar_days → from (matches_at s) 1440 0 < 1440 → firing_after s m ≡ Ok (quick s n m)
unfolding quick
quick-right s n m h k a b = go (matches_on s day && ltb time 1440) refl
  where
    day : ℕ
    day = (m + 1) / 1440

    time : ℕ
    time = from (matches_at s) 1440 ((m + 1) % 1440)

    later : ℕ
    later = day_from s n (day + 1)

    go : (u : Bool) → (matches_on s day && ltb time 1440) ≡ u
        → firing_after s m ≡ Ok (cond u (day * 1440 + time) (later * 1440 + from (matches_at s) 1440 0))
    go true e =
        let t : time < 1440 = ltb-true _ _ (and-true (matches_on s day) _ e).1 in
        sym
        (firing-found s m _
        (digits-here 1440 (lit< tt) (matches_on s) (matches_at s) calendar_days (m + 1) (omega arith) refl refl e)
        (omega arith))
    go false e =
        sym
        (firing-found s m _
        (digits-later 1440 (lit< tt) (matches_on s) (matches_at s) calendar_days (m + 1) (omega arith) refl refl e
        (day-found s n (day + 1) k a) refl (rw (lt-ltb _ _ a, lt-ltb _ _ b)))
        (omega arith))
