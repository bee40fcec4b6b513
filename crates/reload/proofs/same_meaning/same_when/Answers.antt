-- `reload::same_meaning::same_when` meets its contract.
-- Assumes nothing.
use mathlib.Core.Path.{sym, ◌∙◌}
use Rattle.reload.proofs.EntryMeanings.{when-is, boot-time, timed-time}
use Rattle.reload.proofs.same_meaning.same_when.Goals as goal

pub returns-in-Reboot : goal.returns-in-Reboot
returns-in-Reboot c =
    let same = sym (when-is c.args.a c.args.b) ∙ sym c.eq.ensures ∙ c.if-eq.true in
    rw c.in-Reboot.is (boot-time c.args.b c.args.offset c.args.other (rw c.in-Reboot.is at same))

pub returns-in-Timed : goal.returns-in-Timed
returns-in-Timed c =
    let same = sym (when-is c.args.a c.args.b) ∙ sym c.eq.ensures ∙ c.if-eq.true in
    rw c.in-Timed.is (timed-time c.in-Timed.field-0 c.args.b c.args.offset c.args.other c.requires.0 c.requires.1 (rw c.in-Timed.is at same))

pub returns-else-eq : goal.returns-else-eq
returns-else-eq c = rw (sym (when-is c.args.a c.args.b) ∙ sym c.eq.ensures ∙ c.if-eq.false) c.if-eq.false
