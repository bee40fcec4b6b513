-- The two ends of a range, whatever their bytes: a number where it is one, and else a name; `sun` is 7 only above another day, and only where ranges don't wrap.
-- Assumes nothing.
use Rattle.std.specs.Prelude.{Some, None}
use mathlib.Core.Path.{◌≡◌, refl}
use mathlib.Core.Bool.{true, false, not, ◌&&◌, and-false}
use mathlib.Core.List.{List, map}
use mathlib.Core.Logic.{◌⊎◌, inl, inr}
use Prim.Native.Nat.{ℕ}
use Rattle.octets.specs.Texts.{text}
use Rattle.field.specs.declared.Limits.{Limits}
use Rattle.field.specs.declared.Names.{Names}
use Rattle.field.specs.declared.Names.TheVariants.{Weekdays}
use Rattle.field.specs.Numbers.{number_of}
use Rattle.field.specs.Names.{lower, name_of, is_sunday}
use Rattle.field.specs.Elements.{number_or, end_of, upper_of}
use Rattle.field.proofs.NameTexts.{alike-exact}

-- the name of Sunday, in any letter case, and no other bytes
pub sunday-exact : (s : List ℕ) → (is_sunday Weekdays s ≡ true → map lower s ≡ text "sun") × (map lower s ≡ text "sun" → is_sunday Weekdays s ≡ true)
unfolding is_sunday
sunday-exact s = alike-exact s (text "sun")

-- ---- an end

module _ (names : Names) (s : List ℕ) where
  pub end-named : number_of s ≡ None → end_of names s ≡ name_of names s
  unfolding end_of number_or
  end-named e = rw e refl

  pub end-numbered : (n : ℕ) → number_of s ≡ Some n → end_of names s ≡ Some n
  unfolding end_of number_or
  end-numbered n e = rw e refl

-- ---- the upper end, by the bytes of both

module _ (l : Limits) (low high : List ℕ) where
  -- where ranges wrap, `sun` is as it is elsewhere
  pub upper-wraps : l.wraps ≡ true → upper_of l low high ≡ end_of l.names high
  unfolding upper_of
  upper-wraps e = rw (e, and-false (is_sunday l.names high && not (is_sunday l.names low))) refl

  -- `sun` above another day
  pub upper-week : l.wraps ≡ false → is_sunday l.names high ≡ true → is_sunday l.names low ≡ false → upper_of l low high ≡ Some 7
  unfolding upper_of
  upper-week e p q = rw (e, p, q) refl

  -- above `sun`, and where the upper end isn't `sun`
  pub upper-plain : (is_sunday l.names high ≡ false) ⊎ (is_sunday l.names low ≡ true) → upper_of l low high ≡ end_of l.names high
  unfolding upper_of
  upper-plain (inl p) = rw p refl
  upper-plain (inr q) = rw (q, and-false (is_sunday l.names high)) refl
