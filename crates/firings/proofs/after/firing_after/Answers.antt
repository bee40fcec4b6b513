-- `firings::after::firing_after` meets its contract: the schedule's answer is the first firing.
-- Assumes nothing.
use mathlib.Core.Path.{◌∙◌}
use Rattle.line.proofs.Theorems.{kept, kept_in}
use Rattle.firings.proofs.NextFirings.{boot-none, timed-first, next-same}
use Rattle.firings.proofs.after.firing_after.Goals as goal

pub next_firing_in-requires : goal.next_firing_in-requires
next_firing_in-requires c =
    (kept_in c.args.entry.offset c.requires.0, c.requires.1)

pub returns-in-Reboot : goal.returns-in-Reboot
returns-in-Reboot c = boot-none _ _ c.requires.1 c.in-Reboot.is

pub returns-in-Timed : goal.returns-in-Timed
returns-in-Timed c =
    c.minute_of.ensures
    ∙ timed-first c.args.entry _ c.requires.1 _ c.in-Timed.is _
    (next-same (kept {z = c.args.entry.offset} c.requires.0) _ _ c.next_firing_in.ensures)
