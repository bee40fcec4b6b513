-- The theorems of a reload used at their edges: system tables in the second dialect with 512 entries, and the last of them. An added hypothesis, or a part
-- less of a conclusion, breaks one of these.
-- Assumes nothing.
use mathlib.Core.Path.{◌≡◌}
use mathlib.Core.Bool.{true, false}
use mathlib.Core.List.{List, ◌++◌}
use Prim.Native.Nat.{ℕ, ◌+◌, ◌≤◌, ◌<◌}
use native.Mathlib.Omega.{arith}
use Rattle.octets.specs.Passing.{count_below}
use Rattle.octets.proofs.LittleEndian.{Bytes}
use Rattle.field.specs.declared.Dialect.TheVariants.{Wrapping}
use Rattle.line.specs.declared.Rules.{Rules}
use Rattle.line.specs.declared.Kind.TheVariants.{System}
use Rattle.crontab.specs.Tables.{table_of, count_in}
use Rattle.std.specs.Prelude.{Ok}
use Rattle.fifo.specs.Queues.{is_waiting, entries_of, proper}
use Rattle.fifo.specs.Layout.{stored}
use Rattle.fifo.specs.Fairness.{Call, Follows, unrefused, ConsecutiveTicks, up_to, Names}
use Rattle.runqueue.specs.Demand.{jobs_in, CanFire, biased_offset_of, bound_from}
use Rattle.reload.specs.Targets.{duty_in, same_in, rank_in, target_in, reloaded}
use Rattle.reload.specs.Calls.{reload_tables}
use Rattle.reload.proofs.Theorems.{same-is, target-rank, target-last, reloaded-entries, reloaded-append, still-waits, was-waiting, same-table, queue_after, reload-leaves, reload-fair}

abbrev system : Rules
system = record { kind = System; dialect = Wrapping }

module _ (old new : List ℕ) (before : count_in (table_of system old) ≡ 512) (after : count_in (table_of system new) ≡ 512) where
  pub same-last : (same_in system old 511 new 511 ≡ true → duty_in system old 511 ≡ duty_in system new 511)
      × (duty_in system old 511 ≡ duty_in system new 511 → same_in system old 511 new 511 ≡ true)
  same-last = same-is system old 511 new 511 (omega (arith, before)) (omega (arith, after))

  -- the last entry becomes the one of its rank, or the last that means the same
  pub target-511 : (rank : ℕ) → rank_in system old 511 ≡ rank
      → (rank < count_below (same_in system old 511 new) 512 → count_below (same_in system old 511 new) (target_in system old new 511) ≡ rank)
      × (count_below (same_in system old 511 new) 512 ≤ rank → (k : ℕ) → target_in system old new 511 < k → k < 512 → same_in system old 511 new k ≡ false)
  target-511 rank is = (rw (is, after) at (target-rank system old new 511), rw (is, after) at (target-last system old new 511))

  -- who is queued: entries of the new table; what means the same stays, and nothing else joins; in the old order
  pub still-511 : (l : List ℕ)
      → (entries_of 512 (reloaded system old new l) ≡ true)
      × (is_waiting 511 l ≡ true → same_in system old 511 new 511 ≡ true
      → (k : ℕ) × (is_waiting k (reloaded system old new l) ≡ true) × (same_in system old 511 new k ≡ true))
      × (is_waiting 511 (reloaded system old new l) ≡ true
      → (e : ℕ) × (is_waiting e l ≡ true) × (target_in system old new e ≡ 511) × (same_in system old e new 511 ≡ true))
      × ((k : List ℕ) → (rest : List ℕ) × (reloaded system old new (l ++ k) ≡ reloaded system old new l ++ rest))
  still-511 l = (
    rw after at (reloaded-entries system old new l),
    (λ w s. still-waits system old new l 511 511 w (omega (arith, after)) s),
    (λ w. was-waiting system old new l 511 w),
    (λ k. reloaded-append system old new l k),
  )

  -- what it leaves, and that demand 3 goes on from there
  pub leaves-511 : (room : List ℕ) (k : ℕ) → (reload_tables system old new room).answer ≡ Ok k
      → (proper 512 (queue_after system old new room) ≡ true) × (stored (queue_after system old new room) (reload_tables system old new room).room ≡ (reload_tables system old new room).room)
  leaves-511 room k done = let x = reload-leaves system old new room k done in (rw after at x.0, x.1)

  pub fair-511 : (room : List ℕ) (k t : ℕ) (second : List Call)
      → let jobs = jobs_in system new in
      (reload_tables system old new room).answer ≡ Ok k → CanFire system new 511
      → Follows jobs (queue_after system old new room) second
      → t + bound_from system new 511 t ≤ 4223371679 → t + bound_from system new 511 t + biased_offset_of system new 511 ≤ 4223372399
      → ConsecutiveTicks (t + 1) (bound_from system new 511 t) true (unrefused jobs second)
      → Names jobs 511 (up_to (bound_from system new 511 t) (unrefused jobs second))
  fair-511 room k t second done can follows utc local = reload-fair system old new room k 511 t second done can follows (record { utc = utc; local = local })

-- the same table, whatever the bytes hold
pub same_bytes : (s room : List ℕ) → Bytes room → (reload_tables system s s room).room ≡ room
same_bytes s room bytes = same-table system s room bytes
