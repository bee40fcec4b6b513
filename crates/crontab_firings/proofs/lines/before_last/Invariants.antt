-- `crontab_firings::lines::before_last` meets its contract: all firings passed are of the minute.
-- Assumes nothing.
use mathlib.Core.Path.{◌≡◌}
use Prim.Native.Nat.{ℕ, ◌≤◌, ◌<◌, min}
use lib.ListN.{length, get_or}
use Rattle.crontab_firings.proofs.lines.before_last.Given as goal

abbrev pub invariant-loop-k : goal.invariant-loop-k
invariant-loop-k l = (l.k ≤ min l.n (length l.minutes)) × ((j : ℕ) → l.k ≤ j → j < min l.n (length l.minutes) → get_or l.minutes j 0 ≡ l.last)
