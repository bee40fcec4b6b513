use mathlib.Core.Path.{◌≡◌, sym, ap, subst, ◌∙◌}
use Prim.Native.Nat.{◌+◌, ◌-◌}
use native.Mathlib.Omega.{arith}
use lib.IntN.{ℤ}
use mir.Syntax.{w32}
use mir.Val.{to_z, of_z}
use mir.Facts.{to_z-of_z}
use Rattle.schedule.specs.Local.{OffsetInRange, biased_offset, matches_in, matches_local}
use Rattle.schedule.specs.Clocks.{clock}
use Rattle.schedule.proofs.Offsets.{passed}
use Rattle.schedule.proofs.LocalTheorems.{local-date}
use Rattle.schedule.proofs.Clocks.{clock-here, clock-on}
use Rattle.schedule.proofs.clock.clock.Goals as goal
use Rattle.schedule.proofs.clock.clock.Goals.{After-matches_local}

-- whether the minute matches, by its local date
asked : (c : After-matches_local)
    → let a = c.args in
    c.matches_local.result ≡ matches_in a.s (biased_offset (to_z w32 (of_z w32 a.offset))) c.loop-minute.minute
asked c =
    let a = c.args in
    c.matches_local.ensures
    ∙ ap (matches_local a.s) c.local_date.ensures
    ∙ local-date a.s (biased_offset (to_z w32 (of_z w32 a.offset))) c.loop-minute.minute

pub loop-minute-init : goal.loop-minute-init
loop-minute-init c = let a = c.args in let e : a.from + a.minutes - a.from ≡ a.minutes = omega arith in rw e

pub local_date-requires : goal.local_date-requires
local_date-requires c = (subst OffsetInRange (sym (to_z-of_z c.ranges.offset)) c.requires.0, omega (arith, c.requires.1))

pub returns-then-matches_local : goal.returns-then-matches_local
returns-then-matches_local c =
    let a = c.args in
    let m = c.loop-minute.minute in
    sym (clock-here _ _ (a.from + a.minutes - m) m (omega arith) (sym (asked c.before) ∙ c.if-matches_local.true))
    ∙ c.loop-minute.invariant
    ∙ passed (λ (z : ℤ). clock a.s (biased_offset z) a.minutes a.from) c.ranges.offset

pub loop-minute-preserved : goal.loop-minute-preserved
loop-minute-preserved c =
    let a = c.args in
    let m = c.loop-minute.minute in
    let e : a.from + a.minutes - (m + 1) ≡ a.from + a.minutes - m - 1 = omega arith in
    rw e (sym (clock-on _ _ (a.from + a.minutes - m) m (omega arith) (sym (asked c.before) ∙ c.if-matches_local.false)) ∙ c.loop-minute.invariant)

pub returns : goal.returns
unfolding clock
returns c =
    let a = c.args in
    let e : a.from + a.minutes - c.loop-minute.minute ≡ 0 = omega arith in
    rw e at c.loop-minute.invariant ∙ passed (λ (z : ℤ). clock a.s (biased_offset z) a.minutes a.from) c.ranges.offset
