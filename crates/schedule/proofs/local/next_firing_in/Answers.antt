-- `schedule::local::next_firing_in` meets its contract: each return is a case of the definition.
-- Assumes nothing.
use mathlib.Core.Path.{◌∙◌}
use lib.IntN.{ℤ}
use Rattle.schedule.specs.Local.{biased_offset, firing_after_in, next_after_in}
use Rattle.schedule.proofs.Offsets.{passed}
use Rattle.schedule.proofs.local.next_firing_in.Goals as goal

pub returns-then-can_fire : goal.returns-then-can_fire
unfolding next_after_in
returns-then-can_fire c =
    rw (← c.can_fire.ensures, c.if-can_fire.true)
    (c.firing_after_in.ensures ∙ passed (λ (z : ℤ). firing_after_in c.args.s (biased_offset z) c.args.minute) c.ranges.offset)

pub returns : goal.returns
unfolding next_after_in
returns c = rw (← c.can_fire.ensures, c.if-can_fire.false)
