use Rattle.std.proofs.Common.{◌≡◌, ◌+◌, ◌-◌, min, length, arith}
use Rattle.crontab_firings.proofs.Texts.{behind_more}
use Rattle.crontab_firings.proofs.lines.before_last.Goals as goal

pub loop-k-init : goal.loop-k-init
loop-k-init c = (omega (arith, c.min-k.ensures), λ j h l. absurd (omega (arith, c.min-k.ensures)))

pub returns-then-minutes-k : goal.returns-then-minutes-k
returns-then-minutes-k c =
    let inv = c.loop-k.invariant in
    let same : c.loop-k.k - 1 + 1 ≡ c.loop-k.k = omega arith in
    rw same (record { within = inv.0; behind = inv.1; other = λ h e. c.if-minutes-k.true e })

pub loop-k-preserved : goal.loop-k-preserved
loop-k-preserved c =
    let l = c.loop-k in
    let a = c.args in
    (omega (arith, l.invariant.0), behind_more a.minutes.now a.last (min a.n (length a.minutes.now)) l.k l.invariant.1 c.if-minutes-k.false)

pub returns : goal.returns
returns c =
    let inv = c.loop-k.invariant in
    record { within = omega arith; behind = λ j h. inv.1 j (omega arith); other = λ h e. absurd (omega arith) }
