-- Laws of a date that is put in a run, and of what the call answers.
-- Assumes nothing.
use mathlib.Core.Path.{◌≡◌, refl}
use mathlib.Core.List.{List, [], ◌∷◌}
use Prim.Native.Nat.{ℕ, ◌+◌, ◌≤◌, ◌<◌}
use native.Mathlib.Omega.{arith}
use lib.ListN.{length, set}
use borrow.Author.Tests.{le-leb, lt-leb, leb-true}
use mathlib.Core.Bool.{Bool, true, false, cond, false≢true}
use lib.Dec.{leb}
use Rattle.refusal.specs.declared.Refusal.{Refusal}
use Rattle.refusal.specs.declared.Refusal.TheVariants.{NotOnCalendar, TooShort}
use Rattle.refusal.specs.Numbers.{number_of}
use Rattle.octets.specs.OverFront.{over_front}
use Rattle.std.specs.Prelude.{Result, Ok, Err, IsOk, IfOk}
use Rattle.calendar.specs.declared.Date.{Date}
use Rattle.calendar.specs.Dates.{last_minute, date_at, date_of}
use Rattle.calendar.proofs.Theorems.{parts_within}
use Rattle.eremothyn.specs.declared.dates.DatePart.{DatePart}
use Rattle.eremothyn.specs.declared.dates.DatePart.TheVariants.{Year, Month, Day, Hour, Minute, Weekday}
use Rattle.eremothyn.specs.Answer.{refused_from, result_number}
use Rattle.eremothyn.specs.Dates.{part_in, date_part, parts_of, fitted, date_written, date_answer, written_run, date_run, Small}

-- six numbers at the front of a run
pub six-put : (a b c d e f : ℕ) (run : List ℕ) → 6 ≤ length run
    → set (set (set (set (set (set run 0 a) 1 b) 2 c) 3 d) 4 e) 5 f ≡ over_front (a ∷ b ∷ c ∷ d ∷ e ∷ f ∷ []) run
unfolding over_front
six-put a b c d e f [] h = absurd (omega arith)
six-put a b c d e f (u ∷ []) h = absurd (omega arith)
six-put a b c d e f (u ∷ v ∷ []) h = absurd (omega arith)
six-put a b c d e f (u ∷ v ∷ w ∷ []) h = absurd (omega arith)
six-put a b c d e f (u ∷ v ∷ w ∷ x ∷ []) h = absurd (omega arith)
six-put a b c d e f (u ∷ v ∷ w ∷ x ∷ y ∷ []) h = absurd (omega arith)
six-put a b c d e f (u ∷ v ∷ w ∷ x ∷ y ∷ z ∷ rest) h = refl

-- the parts of a date of the calendar fit in 16 bits
pub date-small : (minute : ℕ) → IfOk (date_of minute) Small
unfolding date_of
date-small minute = go (leb minute last_minute) refl
  where
    go : (b : Bool) → leb minute last_minute ≡ b → IfOk (cond {A = Result Date Refusal} b (Ok (date_at minute)) (Err NotOnCalendar)) Small
    go true e =
        let p = parts_within minute (leb-true minute last_minute e) in
        record {
          year = omega (arith, p.0);
          month = omega (arith, p.1);
          day = omega (arith, p.2);
          hour = omega (arith, p.3);
          minute = omega (arith, p.4);
          weekday = omega (arith, p.5);
        }
    go false e = tt

-- ---- what the call answers, and the run then

module _ (minute : ℕ) (run : List ℕ) where
  -- off the calendar
  pub date-off : (refusal : Refusal) → date_of minute ≡ Err refusal → (refused_from + number_of refusal ≡ date_answer minute run) × (run ≡ date_run minute run)
  unfolding date_answer date_run date_written fitted written_run result_number
  date-off refusal e = (rw e, rw e)

  module _ (d : Date) (good : date_of minute ≡ Ok d) where
    -- too short a run
    pub date-short : length run < 6 → (4294967314 ≡ date_answer minute run) × (run ≡ date_run minute run)
    unfolding date_answer date_run date_written fitted written_run result_number number_of
    date-short h = let l = lt-leb 6 (length run) h in (rw (good, l), rw (good, l))

    pub date-put : 6 ≤ length run → (6 ≡ date_answer minute run) × (over_front (parts_of d) run ≡ date_run minute run)
    unfolding date_answer date_run date_written fitted written_run result_number
    date-put h = let l = le-leb 6 (length run) h in (rw (good, l), rw (good, l))

-- the six numbers are what the six calls for the parts answer
pub date-parts : (minute : ℕ) (run : List ℕ) → IsOk (date_written minute run)
    → date_run minute run ≡ over_front (date_part minute Year ∷ date_part minute Month ∷ date_part minute Day ∷ date_part minute Hour ∷ date_part minute Minute ∷ date_part minute Weekday ∷ []) run
unfolding date_run date_written fitted written_run date_part result_number
date-parts minute run h = go (date_of minute) h
  where
    room : (d : Date) (b : Bool) → IsOk (cond {A = Result Date Refusal} b (Ok d) (Err TooShort))
        → written_run (cond {A = Result Date Refusal} b (Ok d) (Err TooShort)) run ≡ over_front (parts_of d) run
    room d true h = refl
    room d false h = absurd (false≢true h)

    number : Result Date Refusal → DatePart → ℕ
    number a part = result_number (λ d. part_in d part) a

    go : (a : Result Date Refusal) → IsOk (fitted a run)
        → written_run (fitted a run) run ≡ over_front (number a Year ∷ number a Month ∷ number a Day ∷ number a Hour ∷ number a Minute ∷ number a Weekday ∷ []) run
    go (Ok d) h = room d (leb 6 (length run)) h
    go (Err n) h = absurd (false≢true h)
