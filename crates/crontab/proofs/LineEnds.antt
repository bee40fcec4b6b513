-- The lines of a table by its bytes, of any length: "a newline ends a line", and what follows the last one is a line if there is anything.
-- Assumes nothing.
use mathlib.Core.Path.{◌≡◌, refl, sym}
use mathlib.Core.Bool.{Bool, true, false, not, and-eq-true_iff}
use mathlib.Core.List.{List, [], ◌∷◌, ◌++◌}
use Prim.Native.Nat.{ℕ}
use lib.Dec.{eqb}
use Rattle.octets.specs.declared.class.Class.TheVariants.{Not}
use Rattle.octets.specs.Classes.{of_class}
use Rattle.octets.specs.Runs.{are_of}
use Rattle.crontab.specs.Lines.{onto, lines_of, is_cut}

-- a newline ends a line
no-newline : (b : ℕ) (l : List ℕ) → are_of (Not 10) (b ∷ l) ≡ true → (eqb b 10 ≡ false) × (are_of (Not 10) l ≡ true)
unfolding are_of of_class
no-newline b l e = let t = (and-eq-true_iff (not (eqb b 10)) (are_of (Not 10) l)).0 e in (go (eqb b 10) t.0, t.1)
  where
    go : (x : Bool) → not x ≡ true → x ≡ false
    go true z = sym z
    go false z = refl

pub line-ends : (l rest : List ℕ) → are_of (Not 10) l ≡ true → lines_of (l ++ (10 ∷ rest)) ≡ l ∷ lines_of rest
unfolding lines_of onto
line-ends [] rest e = refl
line-ends (b ∷ l) rest e = let (x, y) = no-newline b l e in rw (x, line-ends l rest y)

-- what comes after the last one is a line, if there is anything
pub line-alone : (b : ℕ) (l : List ℕ) → are_of (Not 10) (b ∷ l) ≡ true → lines_of (b ∷ l) ≡ (b ∷ l) ∷ []
unfolding lines_of onto
line-alone b [] e = let (x, y) = no-newline b [] e in rw x
line-alone b (c ∷ l) e = let (x, y) = no-newline b (c ∷ l) e in rw (x, line-alone c l y)

-- the last byte of a table says whether it is cut
pub cut-is : (s : List ℕ) (b : ℕ) → is_cut (s ++ (b ∷ [])) ≡ not (eqb b 10)
unfolding is_cut
cut-is [] b = refl
cut-is (x ∷ []) b = refl
cut-is (x ∷ y ∷ s) b = cut-is (y ∷ s) b
