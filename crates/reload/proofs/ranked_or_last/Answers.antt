-- `reload::ranked_or_last` meets its contract.
-- Assumes nothing.
use native.Mathlib.Omega.{arith}
use Rattle.octets.specs.BitSets.{has_member}
use Rattle.reload.proofs.Targets.{ends-ranked, ends-none, ends_last}
use Rattle.reload.proofs.ranked_or_last.Goals as goal

pub returns-then-at-n : goal.returns-then-at-n
returns-then-at-n c =
    let a = c.args in
    ends-ranked (has_member a.members.now) a.n a.rank c.ranked-at.ensures c.if-at-n.true

pub returns-then-total-eq0 : goal.returns-then-total-eq0
returns-then-total-eq0 c =
    let a = c.args in
    ends-none (has_member a.members.now) a.n a.rank c.ranked-at.ensures (omega (arith, c.if-at-n.false)) c.below-total.ensures (omega (arith, c.if-total-eq0.true))

pub returns : goal.returns
returns c =
    let a = c.args in
    ends_last (has_member a.members.now) a.n a.rank c.ranked-at.ensures (omega (arith, c.if-at-n.false)) c.below-total.ensures c.ranked.ensures
