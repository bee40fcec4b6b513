-- `schedule::local::firing_after_in` meets its contract: by where the minute after the one asked about lies locally.
-- Assumes nothing.
use mathlib.Core.Path.{◌≡◌, sym, ap, subst, ◌∙◌}
use Prim.Native.Nat.{◌+◌, ◌-◌, ◌≤◌, ◌<◌}
use native.Mathlib.Omega.{arith}
use lib.Dec.{T}
use lib.IntN.{ℤ, pos, nat_abs, ◌-ℤ◌}
use lib.Signed.{non_neg}
use mir.Syntax.{w32, w64}
use mir.Val.{Fits, to_z, of_z}
use Rattle.calendar.specs.Dates.{last_minute}
use Rattle.schedule.specs.Local.{biased_offset, local_of, firing_from_in, firing_after_in}
use Rattle.schedule.proofs.Offsets.{passed, negative_fits, negative-read}
use Rattle.schedule.proofs.LocalMinutes.{is-before, is_at, is-after}
use Rattle.schedule.proofs.LocalFirings.{firing-skip, firing-past, firing-end}
use Rattle.schedule.proofs.local.firing_after_in.Goals as goal
use Rattle.schedule.proofs.local.firing_after_in.Goals.{After-local_minute, In-Before}

-- what the call has told
told : (c : After-local_minute)
    → let a = c.args in c.local_minute.result ≡ local_of (biased_offset a.offset) (a.minute + 1)
told c =
    c.local_minute.ensures ∙ passed (λ (z : ℤ). local_of (biased_offset z) (c.args.minute + 1)) c.ranges.offset

-- below zero locally
below : (c : In-Before) → let a = c.args in a.minute + 1 + biased_offset a.offset < 720
below c = is-before _ _ (sym c.in-Before.is ∙ told c.before)

start_is : (c : In-Before)
    → let z = c.args.offset in
    to_z w32 (of_z w32 (pos 0 -ℤ to_z w32 (of_z w32 z))) ≡ pos (720 - biased_offset z)
start_is c =
    negative-read c.ranges.offset c.requires.0 (omega (arith, below c))

pub returns-then-minute-ge-LAST_MINUTE : goal.returns-then-minute-ge-LAST_MINUTE
unfolding firing_after_in
returns-then-minute-ge-LAST_MINUTE c = let h = c.if-minute-ge-LAST_MINUTE.true in firing-end _ _ _ (omega arith)

pub overflow_sub-offset : goal.overflow_sub-offset
overflow_sub-offset c =
    negative_fits c.ranges.offset c.requires.0 (omega (arith, below c))

pub overflow_cast-offset : goal.overflow_cast-offset
overflow_cast-offset c =
    subst (λ (y : ℤ). T (non_neg y) × Fits w64 (nat_abs y)) (sym (start_is c)) (tt, record { fits = omega arith })

pub firing_from-requires : goal.firing_from-requires
firing_from-requires c =
    subst (λ (y : ℤ). (0 ≤ last_minute) × (nat_abs y ≤ last_minute)) (sym (start_is c)) (omega arith, omega arith)

pub firing_from-requires-in-At : goal.firing_from-requires-in-At
firing_from-requires-in-At c =
    let p = is_at _ _ _ (sym c.in-At.is ∙ told c.before) in
    let h = c.if-minute-ge-LAST_MINUTE.false in
    (p.1, omega arith)

pub returns-in-Before : goal.returns-in-Before
unfolding firing_after_in
returns-in-Before c =
    let a = c.args in
    let o = biased_offset a.offset in
    let e = ap nat_abs (start_is c.before) in
    let h = below c.before in
    c.firing_from.ensures o (rw e (omega arith)) ∙ ap (firing_from_in a.s o) e ∙ firing-skip a.s o (a.minute + 1) h

pub returns-in-At : goal.returns-in-At
unfolding firing_after_in
returns-in-At c =
    let p = is_at _ _ _ (sym c.in-At.is ∙ told c.before.before) in
    c.firing_from-in-At.ensures _ p.0

pub returns-in-After : goal.returns-in-After
unfolding firing_after_in
returns-in-After c =
    let h = c.if-minute-ge-LAST_MINUTE.false in
    firing-past _ _ _ (is-after _ _ (sym c.in-After.is ∙ told c.before)) (omega arith)
