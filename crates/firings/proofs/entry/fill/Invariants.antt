-- `firings::entry::fill` meets its contract. The loop's invariant: the firings from `minute` on lie ahead, and `minute` is one, or past the
-- calendar.
-- Assumes nothing.
use mathlib.Core.Path.{◌≡◌}
use mathlib.Core.Bool.{true}
use Prim.Native.Nat.{◌+◌, ◌-◌, ◌≤◌}
use lib.ListN.{length}
use Rattle.calendar.specs.Dates.{last_minute}
use Rattle.crontab.specs.Firings.{fires_at}
use Rattle.octets.specs.Passing.{passing_up_to}
use Rattle.firings.specs.Lists.{firings_of}
use Rattle.firings.proofs.Filling.{Filling}
use Rattle.firings.proofs.entry.fill.Given as goal

abbrev pub invariant-loop-minute : goal.invariant-loop-minute
invariant-loop-minute l = Filling (length l.initial.run) (firings_of l.entry l.a l.b) l.initial.run l.n l.run (passing_up_to (fires_at l.entry) l.b l.minute)
    × (l.minute ≤ last_minute + 1) × (l.minute ≤ last_minute → fires_at l.entry l.minute ≡ true)

abbrev pub decreases-loop-minute : goal.decreases-loop-minute
decreases-loop-minute l = last_minute + 2 - l.minute
