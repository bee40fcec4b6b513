-- Laws of what lies ahead of a place in a command: one for each way through a step, and the end.
-- Assumes nothing.
use mathlib.Core.Path.{◌≡◌, ◌∙◌}
use mathlib.Core.Bool.{Bool, true, false, false≢true}
use mathlib.Core.List.{List, [], ◌∷◌}
use Prim.Native.Nat.{ℕ, suc, ◌+◌, ◌≤◌, ◌<◌}
use native.Mathlib.Nat.{add-zero}
use native.Mathlib.Numerals.{add-one}
use lib.Dec.{eqb}
use lib.ListN.{length, get_or, drop, drop_of_length-le}
use lib.Seq.{drop-cons, drop-drop, get_or-drop}
use borrow.Author.Tests.{eqb-true, eqb-false}
use Rattle.command.specs.declared.Piece.TheVariants.{Byte, Percent}
use Rattle.command.specs.Pieces.{percent, backslash, pieces}
use Rattle.command.specs.Inner.{ahead}
use Rattle.command.proofs.Theorems.{escaped, kept, ends, unescaped, plain}

-- past the end nothing lies ahead
pub ahead-end : (second : Bool) (c : List ℕ) (i : ℕ) → length c ≤ i → ahead second (drop i c) ≡ []
unfolding ahead pieces
ahead-end true c i h = rw (drop_of_length-le c h)
ahead-end false c i h = rw (drop_of_length-le c h)

-- what stands behind a backslash
behind-percent : (s : List ℕ) → eqb (get_or s 0 0) percent ≡ true → pieces false (backslash ∷ s) ≡ Byte percent ∷ pieces false (drop 1 s)
behind-percent [] e = absurd (false≢true e)
behind-percent (b ∷ s) e = rw (eqb-true b percent e) (escaped s)

behind-other : (s : List ℕ) → eqb (get_or s 0 0) percent ≡ false → pieces false (backslash ∷ s) ≡ Byte backslash ∷ ahead true s
unfolding ahead
behind-other [] e = ends
behind-other (b ∷ s) e = kept b s (eqb-false b percent e)

module _ (c : List ℕ) (i : ℕ) (h : i < length c) where
  pub ahead-second : ahead true (drop i c) ≡ Byte (get_or c i 0) ∷ ahead false (drop (i + 1) c)
  unfolding ahead
  ahead-second = rw (add-one, drop-cons c i 0 h)

  pub ahead-percent : get_or c i 0 ≡ percent → ahead false (drop i c) ≡ Percent ∷ ahead false (drop (i + 1) c)
  unfolding ahead
  ahead-percent e = rw (add-one, drop-cons c i 0 h, e, unescaped)

  pub ahead-plain : (get_or c i 0 ≡ percent → ⊥) → (get_or c i 0 ≡ backslash → ⊥)
      → ahead false (drop i c) ≡ Byte (get_or c i 0) ∷ ahead false (drop (i + 1) c)
  unfolding ahead
  ahead-plain n m = rw (add-one, drop-cons c i 0 h, plain (get_or c i 0) (drop (suc i) c) n m)

  -- a backslash, by what stands behind it
  module _ (e : get_or c i 0 ≡ backslash) where
    pub ahead-escaped : eqb (get_or c (i + 1) 0) percent ≡ true → ahead false (drop i c) ≡ Byte percent ∷ ahead false (drop (i + 1 + 1) c)
    unfolding ahead
    ahead-escaped q =
        rw (drop-cons c i 0 h, e, ← add-one i)
        (behind-percent (drop (i + 1) c) (rw (get_or-drop (i + 1) c 0 0, add-zero (i + 1)) q) ∙ rw (drop-drop 1 (i + 1) c))

    pub ahead-kept : eqb (get_or c (i + 1) 0) percent ≡ false → ahead false (drop i c) ≡ Byte (get_or c i 0) ∷ ahead true (drop (i + 1) c)
    unfolding ahead
    ahead-kept q =
        rw (drop-cons c i 0 h, e, ← add-one i) (behind-other (drop (i + 1) c) (rw (get_or-drop (i + 1) c 0 0, add-zero (i + 1)) q))
