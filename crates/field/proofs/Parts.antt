-- Laws of bytes divided by a byte: the parts one after the other.
-- Assumes nothing.
use mathlib.Core.Path.{◌≡◌, refl, ap}
use mathlib.Core.Bool.{Bool, true, false, cond, not}
use mathlib.Core.List.{List, [], ◌∷◌}
use Prim.Native.Nat.{ℕ, suc}
use lib.ListN.{length, drop}
use lib.Dec.{eqb, ltb, leb-zero, leb-suc-suc}
use Rattle.octets.specs.declared.class.Class.TheVariants.{Not}
use Rattle.octets.specs.Classes.{of_class}
use Rattle.octets.specs.Runs.{run}
use Rattle.field.specs.Parts.{contains, before, after, after_each, split}

module _ (b : ℕ) where
  -- the parts after the first are those of what stands after the first b
  after-each : (s : List ℕ) → after_each b s ≡ cond (contains b s) (split b (after b s)) []
  unfolding run of_class contains before after after_each split
  after-each [] = refl
  after-each (x ∷ s) = go (eqb x b) (after-each s)
    where
      go : (t : Bool) → after_each b s ≡ cond (contains b s) (split b (after b s)) []
          → cond t (before b s ∷ after_each b s) (after_each b s)
          ≡ cond (ltb (cond (not t) (suc (run (Not b) s)) 0) (suc (length s))) (split b (drop (suc (cond (not t) (suc (run (Not b) s)) 0)) (x ∷ s))) []
      go true e = rw (leb-suc-suc 0 (length s), leb-zero (length s))
      go false e = rw (leb-suc-suc (suc (run (Not b) s)) (length s)) e

  pub split-first : (s : List ℕ) → split b s ≡ before b s ∷ cond (contains b s) (split b (after b s)) []
  unfolding split
  split-first s = ap (λ (l : List (List ℕ)). before b s ∷ l) (after-each s)
