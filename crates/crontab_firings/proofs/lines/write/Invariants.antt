-- `crontab_firings::lines::write` meets its contract: the first i firings are written, each within the room of a line.
-- Assumes nothing.
use Prim.Native.Nat.{◌≤◌}
use Rattle.crontab_firings.proofs.Texts.{Written}
use Rattle.crontab_firings.proofs.lines.write.Given as goal

abbrev pub invariant-loop-i : goal.invariant-loop-i
invariant-loop-i l = Written l.minutes l.entries l.i l.initial.text l.at l.text × (l.i ≤ l.most)
