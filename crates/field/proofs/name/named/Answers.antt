use mathlib.Core.Path.{sym, ◌∙◌}
use native.Mathlib.Omega.{arith}
use Rattle.std.proofs.lemmas.Result.{MatchResult-at_ok}
use Rattle.field.proofs.Naming.{lowered, named-hit, named-miss, named-past, named-short}
use Rattle.field.proofs.name.named.Goals as goal

pub returns-in_default : goal.returns-in_default
returns-in_default c = sym (named-short _ _ _ c.requires.0.1 (λ long. grind (arith, c.try_from.ensures.0 long, c.in_default.not-Ok)))

pub returns-then-is_name : goal.returns-then-is_name
returns-then-is_name c =
    let whole = MatchResult-at_ok _ _ _ c.in-Ok.is c.try_from.ensures.1 in
    let same = rw (c.make_ascii_lowercase.ensures.after, whole.same) at (sym c.is_name.ensures ∙ c.if-is_name.true) in
    sym (named-hit _ _ _ _ c.loop-i-test.true (sym (lowered _ _) ∙ same)) ∙ c.loop-i.invariant

pub loop-i-preserved : goal.loop-i-preserved
loop-i-preserved c =
    let whole = MatchResult-at_ok _ _ _ c.in-Ok.is c.try_from.ensures.1 in
    let same = rw (c.make_ascii_lowercase.ensures.after, whole.same) at (sym c.is_name.ensures ∙ c.if-is_name.false) in
    sym (named-miss _ _ _ _ c.loop-i-test.true (sym (lowered _ _) ∙ same)) ∙ c.loop-i.invariant

pub returns : goal.returns
returns c = sym (named-past _ _ _ c.loop-i.i (omega arith)) ∙ c.loop-i.invariant
