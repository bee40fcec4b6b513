-- A run that is filled number by number: what holds on the way, and at the end.
-- Assumes nothing.
use mathlib.Core.Path.{◌≡◌, refl, ap, ◌∙◌}
use mathlib.Core.List.{List, [], ◌∷◌, ◌++◌}
use Prim.Native.Nat.{ℕ, ◌+◌, ◌≤◌, ◌<◌}
use native.Mathlib.Omega.{arith}
use lib.ListN.{length, take, drop, set, length-set, length-drop}
use lib.Seq.{length-take-le, take_all}
use borrow.Author.Tests.{le-leb, lt-leb}
use Rattle.octets.specs.OverFront.{over_front}
use Rattle.octets.proofs.Written.{drop-next, store-next}
use Rattle.firings.specs.declared.Filled.TheVariants.{All, More}
use Rattle.firings.specs.Calls.{filled, fitted}

-- ---- on the way

-- Of the numbers `all` n are written where there is room for so many; `rest` are those ahead.
pub record Filling (room : ℕ) (all before : List ℕ) (n : ℕ) (run rest : List ℕ) : Type 0 where
  pub within : room ≤ length before
  pub fits : n ≤ room
  pub few : n ≤ length all
  pub biased_offset : drop n all ≡ rest
  pub is : run ≡ take n all ++ drop n before
  pub size : length run ≡ length before

pub filling-start : (room : ℕ) (all before : List ℕ) → room ≤ length before → Filling room all before 0 before all
filling-start room all before h = record { within = h; fits = omega arith; few = omega arith; biased_offset = refl; is = refl; size = refl }

module _ {room : ℕ} {all before : List ℕ} {n : ℕ} {run : List ℕ} where
  -- the same numbers ahead
  pub filling-ahead : {rest more : List ℕ} → Filling room all before n run rest → rest ≡ more → Filling room all before n run more
  filling-ahead f e = rw e at f

  -- there is one more
  goes_on : {v : ℕ} {rest : List ℕ} → Filling room all before n run (v ∷ rest) → n < length all
  goes_on f = omega (arith, ap length f.biased_offset, length-drop n all)

  pub filling-next : {v : ℕ} {rest : List ℕ} → Filling room all before n run (v ∷ rest) → n < room → Filling room all before (n + 1) (set run n v) rest
  filling-next {v} {rest} f h =
      let w = f.within in
      record {
        within = w;
        fits = omega arith;
        few = let g = goes_on f in omega arith;
        biased_offset = drop-next all rest n v f.biased_offset;
        is = rw f.is (store-next all rest before n v f.biased_offset (omega arith));
        size = simp length-set f.size;
      }

  -- ---- at the end

  -- nothing is ahead
  ended : Filling room all before n run [] → length all ≡ n
  ended f = let g = f.few in omega (arith, ap length f.biased_offset, length-drop n all)

  pub all_told : Filling room all before n run [] → All n ≡ filled (length all) room
  unfolding filled
  all_told f = rw (ended f, le-leb n room f.fits)

  pub all_laid : Filling room all before n run [] → run ≡ fitted all room before
  unfolding fitted over_front
  all_laid f =
      let e = ended f in
      let g = f.fits in
      f.is ∙ rw (take_all room all (omega arith), e) (ap (λ (t : List ℕ). t ++ drop n before) (take_all n all (omega arith)))

  -- there is no room for the next
  pub more-told : {v : ℕ} {rest : List ℕ} → Filling room all before n run (v ∷ rest) → n ≡ room → More n ≡ filled (length all) room
  unfolding filled
  more-told f e = rw (lt-leb (length all) room (omega (arith, goes_on f)), e)

  pub more-laid : {v : ℕ} {rest : List ℕ} → Filling room all before n run (v ∷ rest) → n ≡ room → run ≡ fitted all room before
  unfolding fitted over_front
  more-laid f e = f.is ∙ rw (← e, length-take-le n all f.few)
