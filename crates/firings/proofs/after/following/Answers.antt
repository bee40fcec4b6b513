-- `firings::after::following` meets its contract: the schedule's answer is the first firing.
-- Assumes nothing.
use mathlib.Core.Path.{◌∙◌}
use Rattle.line.proofs.Theorems.{kept, kept_in}
use Rattle.firings.proofs.NextFirings.{boot-none, timed-first, timed-fires, next-same, fires-same}
use Rattle.firings.proofs.after.following.Goals as goal

pub next_after_firing-requires : goal.next_after_firing-requires
next_after_firing-requires c =
    let same = kept {z = c.args.entry.offset} c.requires.0 in
    let fires = timed-fires c.args.entry _ c.requires.1 _ c.in-Timed.is c.requires.2 in
    (kept_in c.args.entry.offset c.requires.0, c.requires.1, fires-same same _ _ fires)

pub returns-in-Reboot : goal.returns-in-Reboot
returns-in-Reboot c = boot-none _ _ c.requires.1 c.in-Reboot.is

pub returns-in-Timed : goal.returns-in-Timed
returns-in-Timed c =
    c.minute_of.ensures
    ∙ timed-first c.args.entry _ c.requires.1 _ c.in-Timed.is _
    (next-same (kept {z = c.args.entry.offset} c.requires.0) _ _ c.next_after_firing.ensures)
