-- Q4, Q5 and Q6 in plain orders, of any entry and any minutes: which minutes call it beside a mark, and what the mark becomes; what a mark may be.
-- Assumes nothing.
use mathlib.Core.Path.{◌≡◌, refl}
use Rattle.std.specs.Prelude.{Some, None}
use Rattle.schedule.specs.Jumps.{catch_up_limit}
use mathlib.Core.Bool.{Bool, true, false}
use mathlib.Core.Logic.{◌⊎◌, inl, inr}
use Prim.Native.Nat.{ℕ, ◌+◌, ◌≤◌, ◌<◌}
use native.Mathlib.Nat.{lt_of_not-le}
use native.Mathlib.Decide.{dec_le}
use borrow.Author.Tests.{le-leb, lt-leb}
use Rattle.calendar.specs.Dates.{last_minute}
use Rattle.schedule.specs.Jumps.{is_mark, case_of, judged, mark_after}
use Rattle.schedule.proofs.Search.{some-passes, passes-some}
use Rattle.schedule.proofs.Jumps.{case-above, case-below, case-after, case-held}

-- ---- which minutes call an entry; p says which match it

module _ (p : ℕ → Bool) (m : ℕ) where
  -- with no mark: by the minute
  pub unmarked-judged : (fixed : Bool) → judged (case_of None m) fixed p m ≡ p m
  unfolding case_of judged
  unmarked-judged fixed = refl

  module _ (h : ℕ) where
    -- more than 180 above the mark, or at least 180 below: by the minute
    pub far-judged : (h + catch_up_limit < m) ⊎ (m + catch_up_limit ≤ h) → (fixed : Bool) → judged (case_of (Some h) m) fixed p m ≡ p m
    unfolding judged
    far-judged (inl k) fixed = rw (case-above h m k)
    far-judged (inr k) fixed = rw (case-below h m k)

    -- 1 to 180 above: a fixed entry exactly if it matches any minute from h + 1 to m
    pub caught-up : h < m → m ≤ h + catch_up_limit
        → (judged (case_of (Some h) m) true p m ≡ true → (k : ℕ) × (h < k) × (k ≤ m) × (p k ≡ true))
        × ((k : ℕ) → h < k → k ≤ m → p k ≡ true → judged (case_of (Some h) m) true p m ≡ true)
    unfolding judged
    caught-up u v = rw (case-after h m u v) ((λ e. passes-some p h m e), (λ k i j t. some-passes p h m k i j t))

    -- otherwise: no fixed entry
    pub held-judged : m ≤ h → h < m + catch_up_limit → judged (case_of (Some h) m) true p m ≡ false
    unfolding judged
    held-judged u v = rw (case-held h m u v)

-- ---- what the mark becomes

pub first-mark : (m : ℕ) → mark_after None m ≡ Some m
unfolding mark_after case_of
first-mark m = refl

module _ (h m : ℕ) where
  -- the minute, where it is above the mark or far below it
  pub mark-moves : (h < m) ⊎ (m + catch_up_limit ≤ h) → mark_after (Some h) m ≡ Some m
  unfolding mark_after
  mark-moves (inr k) = rw (case-below h m k)
  mark-moves (inl k) = elim (dec_le m (h + catch_up_limit)) [ yes l ↦ rw (case-after h m k l) | no l ↦ above (lt_of_not-le l) ]
    where
      above : h + catch_up_limit < m → mark_after (Some h) m ≡ Some m
      above l = rw (case-above h m l)

  -- otherwise it stays
  pub mark-held : m ≤ h → h < m + catch_up_limit → mark_after (Some h) m ≡ Some h
  unfolding mark_after
  mark-held u v = rw (case-held h m u v)

-- ---- what a mark may be: none, or a minute of the calendar

pub mark-none : is_mark None ≡ true
mark-none = refl

pub mark_on : (h : ℕ) → h ≤ last_minute → is_mark (Some h) ≡ true
mark_on h on = le-leb h last_minute on

pub mark-off : (h : ℕ) → last_minute < h → is_mark (Some h) ≡ false
mark-off h off = lt-leb h last_minute off
