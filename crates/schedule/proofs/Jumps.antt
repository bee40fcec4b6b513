-- Laws of a minute beside the mark: which case it is, by plain orders, and what calls an entry there.
-- Assumes nothing.
use mathlib.Core.Path.{◌≡◌, refl}
use Rattle.std.specs.Prelude.{Option, Some}
use Rattle.schedule.specs.Jumps.{catch_up_limit}
use mathlib.Core.Bool.{Bool, true, false, or-true}
use Prim.Native.Nat.{ℕ, ◌+◌, ◌≤◌, ◌<◌}
use native.Mathlib.Omega.{arith}
use lib.Dec.{ltb}
use borrow.Author.Tests.{le-leb, lt-leb, lt-ltb, le-ltb}
use Rattle.calendar.specs.Dates.{last_minute}
use Rattle.schedule.specs.declared.jump.Case.{Case}
use Rattle.schedule.specs.declared.jump.Case.TheVariants.{Anew, After, Held}
use Rattle.schedule.specs.Jumps.{is_mark, case_of, judged, mark_in, mark_after}

module _ (h m : ℕ) where
  pub case-above : h + catch_up_limit < m → case_of (Some h) m ≡ Anew
  unfolding case_of
  case-above k = rw (lt-ltb (h + catch_up_limit) m k)

  pub case-below : m + catch_up_limit ≤ h → case_of (Some h) m ≡ Anew
  unfolding case_of
  case-below k = rw (le-leb (m + catch_up_limit) h k, or-true (ltb (h + catch_up_limit) m))

  pub case-after : h < m → m ≤ h + catch_up_limit → case_of (Some h) m ≡ After h
  unfolding case_of
  case-after k l = rw (le-ltb (h + catch_up_limit) m l, lt-leb (m + catch_up_limit) h (omega arith), lt-ltb h m k)

  pub case-held : m ≤ h → h < m + catch_up_limit → case_of (Some h) m ≡ Held
  unfolding case_of
  case-held k l = rw (le-ltb (h + catch_up_limit) m (omega arith), lt-leb (m + catch_up_limit) h l, le-ltb h m k)

-- an entry that isn't fixed is judged by the minute, in every case
pub judged-unfixed : (c : Case) (p : ℕ → Bool) (m : ℕ) → judged c false p m ≡ p m
unfolding judged
judged-unfixed Anew p m = refl
judged-unfixed (After h) p m = refl
judged-unfixed Held p m = refl

-- a mark of the calendar stays one
pub mark-stays : (mark : Option ℕ) (m : ℕ) → is_mark mark ≡ true → m ≤ last_minute → is_mark (mark_after mark m) ≡ true
unfolding mark_after
mark-stays mark m e on = go (case_of mark m)
  where
    go : (c : Case) → is_mark (mark_in c mark m) ≡ true
    go Anew = le-leb m last_minute on
    go (After h) = le-leb m last_minute on
    go Held = e
