-- An argument of any length, digit by digit: zeros in front change nothing, a digit more counts ten times what was before it, and nothing else is a number.
-- Assumes nothing.
use Rattle.std.specs.Prelude.{Some, None}
use mathlib.Core.Path.{◌≡◌, refl, ◌∙◌}
use mathlib.Core.Bool.{Bool, true, false, cond}
use mathlib.Core.List.{List, [], ◌∷◌, ◌++◌}
use Prim.Native.Nat.{ℕ, ◌+◌, ◌-◌, ◌*◌}
use native.Mathlib.Omega.{arith}
use Rattle.crontab_firings.specs.Numbers.{goes_on, value_from, number_of}

-- the digits after a value, in two parts
from-append : (s t : List ℕ) (w v : ℕ) → value_from w s ≡ Some v → value_from w (s ++ t) ≡ value_from v t
unfolding value_from
from-append [] t w v e = let i : w ≡ v = cc in rw i
from-append (b ∷ s) t w v e = go (goes_on w b) refl e (from-append s t (w * 10 + (b - 48)) v)
  where
    go : (x : Bool) → goes_on w b ≡ x → cond x (value_from (w * 10 + (b - 48)) s) None ≡ Some v
        → (value_from (w * 10 + (b - 48)) s ≡ Some v → value_from (w * 10 + (b - 48)) (s ++ t) ≡ value_from v t)
        → cond x (value_from (w * 10 + (b - 48)) (s ++ t)) None ≡ value_from v t
    go true p e later = later e
    go false p e later = absurd (let z : ◌≡◌ {A = ℕ} 0 1 = cc in omega arith)

bad-append : (s t : List ℕ) (w : ℕ) → value_from w s ≡ None → value_from w (s ++ t) ≡ None
unfolding value_from
bad-append [] t w e = absurd (let z : ◌≡◌ {A = ℕ} 0 1 = cc in omega arith)
bad-append (b ∷ s) t w e = go (goes_on w b) e (bad-append s t (w * 10 + (b - 48)))
  where
    go : (x : Bool) → cond x (value_from (w * 10 + (b - 48)) s) None ≡ None
        → (value_from (w * 10 + (b - 48)) s ≡ None → value_from (w * 10 + (b - 48)) (s ++ t) ≡ None)
        → cond x (value_from (w * 10 + (b - 48)) (s ++ t)) None ≡ None
    go true e later = later e
    go false e later = refl

last-digit : (v b : ℕ) → goes_on v b ≡ true → value_from v (b ∷ []) ≡ Some (v * 10 + (b - 48))
unfolding value_from
last-digit v b e = rw e

stops-here : (v b : ℕ) (t : List ℕ) → goes_on v b ≡ false → value_from v (b ∷ t) ≡ None
unfolding value_from
stops-here v b t e = rw e

-- ---- of an argument

pub zero-in-front : (b : ℕ) (s : List ℕ) → number_of (48 ∷ b ∷ s) ≡ number_of (b ∷ s)
unfolding number_of value_from goes_on
zero-in-front b s = refl

module _ (x : ℕ) (s : List ℕ) where
  -- a digit more
  pub digit-more : (v b : ℕ) → number_of (x ∷ s) ≡ Some v → goes_on v b ≡ true → number_of (x ∷ s ++ b ∷ []) ≡ Some (v * 10 + (b - 48))
  unfolding number_of
  digit-more v b e more = from-append (x ∷ s) (b ∷ []) 0 v e ∙ last-digit v b more

  -- a byte that can't follow, or a number that is too great
  pub no_more : (v b : ℕ) (t : List ℕ) → number_of (x ∷ s) ≡ Some v → goes_on v b ≡ false → number_of (x ∷ s ++ b ∷ t) ≡ None
  unfolding number_of
  no_more v b t e more = from-append (x ∷ s) (b ∷ t) 0 v e ∙ stops-here v b t more

  -- and what is bad stays bad
  pub bad-stays : (t : List ℕ) → number_of (x ∷ s) ≡ None → number_of (x ∷ s ++ t) ≡ None
  unfolding number_of
  bad-stays t e = bad-append (x ∷ s) t 0 e
