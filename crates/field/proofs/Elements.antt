-- Laws of an element, one for each of its three forms: where its dash and its slash stand, and what stands between them.
-- Assumes nothing.
use Rattle.std.specs.Prelude.{Some}
use mathlib.Core.Path.{◌≡◌, ap}
use mathlib.Core.Bool.{Bool, true, false, cond, not, ◌&&◌}
use mathlib.Core.List.{List}
use Prim.Native.Nat.{ℕ, suc, ◌+◌, ◌-◌, ◌<◌}
use native.Mathlib.Numerals.{add-one}
use native.Mathlib.Omega.{arith}
use lib.ListN.{length, take, drop, length-drop}
use lib.Seq.{take_all, drop-drop}
use borrow.Author.Tests.{lt-ltb, le-ltb}
use Rattle.octets.specs.declared.class.Class.TheVariants.{Not}
use Rattle.octets.specs.Runs.{run, skipped}
use Rattle.field.specs.declared.Limits.{Limits}
use Rattle.field.specs.Parts.{contains, before, after}
use Rattle.field.specs.Numbers.{number_of}
use Rattle.field.specs.Names.{is_sunday}
use Rattle.field.specs.Elements.{ranging, end_of, upper_of, after_dash, element_of}

-- the upper end of a range: 7 for Sunday's name, or what it says
module _ (l : Limits) (low high : List ℕ) where
  pub upper-seven : ((is_sunday l.names high && not (is_sunday l.names low)) && not l.wraps) ≡ true → upper_of l low high ≡ Some 7
  unfolding upper_of
  upper-seven e = ap (λ (t : Bool). cond t (Some 7) (end_of l.names high)) e

  pub upper-other : ((is_sunday l.names high && not (is_sunday l.names low)) && not l.wraps) ≡ false → upper_of l low high ≡ end_of l.names high
  unfolding upper_of
  upper-other e = ap (λ (t : Bool). cond t (Some 7) (end_of l.names high)) e

module _ (l : Limits) (s : List ℕ) (d : ℕ) (at-dash : d ≡ skipped (Not 45) s 0) where
  place : run (Not 45) s ≡ d
  unfolding skipped
  place = omega arith

  pub element-number : d ≡ length s → element_of l s ≡ ranging (end_of l.names (take d s)) (end_of l.names (take d s)) (Some 1)
  unfolding element_of contains
  element-number e = rw (place, le-ltb d (length s) (omega arith), take_all d s (omega arith))

  module _ (inside : d < length s) (e : ℕ) (at-slash : e ≡ skipped (Not 47) s (d + 1)) where
    rest-place : run (Not 47) (drop (suc d) s) ≡ e - suc d
    unfolding skipped
    rest-place = rw (← add-one d) (omega arith)

    rest-length : length (drop (suc d) s) ≡ length s - suc d
    rest-length = length-drop (suc d) s

    pub element-range : e ≡ length s
        → element_of l s ≡ ranging (end_of l.names (take d s)) (upper_of l (take d s) (take (e - (d + 1)) (drop (d + 1) s))) (Some 1)
    unfolding element_of after_dash contains before after skipped
    element-range k =
        rw
        (place, lt-ltb d (length s) inside, rest-place, le-ltb (e - suc d) (length (drop (suc d) s)) (omega (arith, rest-length)), add-one d)
        (rw (take_all (e - suc d) (drop (suc d) s) (omega (arith, rest-length))))

    pub element-step : e < length s
        → element_of l s
        ≡ ranging (end_of l.names (take d s)) (upper_of l (take d s) (take (e - (d + 1)) (drop (d + 1) s)))
        (number_of (take (length s - (e + 1)) (drop (e + 1) s)))
    unfolding element_of after_dash contains before after skipped
    element-step k =
        let t : suc d + suc (e - suc d) ≡ suc e = omega arith in
        rw
        (place, lt-ltb d (length s) inside, rest-place, lt-ltb (e - suc d) (length (drop (suc d) s)) (omega (arith, rest-length)), add-one d)
        (rw
        (drop-drop (suc (e - suc d)) (suc d) s, t, add-one e, take_all (length s - suc e) (drop (suc e) s) (omega (arith, length-drop (suc e) s))))
