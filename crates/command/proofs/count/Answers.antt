use Rattle.std.proofs.Common.{refl, inl, drop, length-drop, Bool, true, false, List, [], ◌∷◌, ℕ, length, ◌≤◌, arith}
use Rattle.std.proofs.lemmas.Iterator.Consumers.{YieldsList-from_first, count_from_yields_List}
use Rattle.command.specs.Inner.{ahead, left}
use Rattle.command.proofs.Sizes.{pieces-length}
use Rattle.command.proofs.count.Goals as goal

ahead-length : (second : Bool) (s : List ℕ) → length (ahead second s) ≤ length s
unfolding ahead
ahead-length false s = omega (arith, pieces-length false s)
ahead-length true [] = omega arith
ahead-length true (b ∷ s) = omega (arith, pieces-length false s)

pub count-requires-clause-fits : goal.count-requires-clause-fits
count-requires-clause-fits c =
    let p = c.args.pieces in
    inl (omega (arith, ahead-length p.second (drop p.at p.command.now), length-drop p.at p.command.now, c.ranges.pieces.0))

pub returns : goal.returns
returns c = count_from_yields_List _ _ c.count.ensures.ran (YieldsList-from_first (λ x. x) left _ refl)
