use mathlib.Core.Path.{sym, ap, ◌∙◌}
use native.Mathlib.Omega.{arith}
use Rattle.octets.specs.Runs.{trimmed}
use Rattle.octets.proofs.Runs.{trimmed-whole, trimmed-empty, trimmed-blank, trimmed-other}
use Rattle.octets.proofs.run.trimmed_end.Goals as goal

pub loop-last-init : goal.loop-last-init
loop-last-init c = ap trimmed (trimmed-whole _ _)

pub loop-last-preserved : goal.loop-last-preserved
loop-last-preserved c =
    let l = c.loop-last in
    sym (trimmed-blank _ _ l.last (omega arith) (omega arith) (sym c.is_blank.ensures ∙ c.if-not-is_blank.false)) ∙ l.invariant

pub returns-then-not-is_blank : goal.returns-then-not-is_blank
returns-then-not-is_blank c =
    let l = c.loop-last in
    omega (arith, trimmed-other c.args.s.now c.args.from l.last (omega arith) (omega arith) (sym c.is_blank.ensures ∙ c.if-not-is_blank.true), l.invariant)

pub returns : goal.returns
returns c = omega (arith, trimmed-empty c.args.s.now c.args.from c.loop-last.last (omega arith), c.loop-last.invariant)
