-- Laws of a reload: what it comes to where a table is refused, where the room is none, and else.
-- Assumes nothing.
use mathlib.Core.Path.{◌≡◌, refl}
use mathlib.Core.Bool.{Bool, true, false, ◌&&◌}
use mathlib.Core.List.{List}
use Prim.Native.Nat.{ℕ}
use lib.ListN.{length}
use Rattle.refusal.specs.declared.Refusal.TheVariants.{NotAQueue}
use Rattle.line.specs.declared.Rules.{Rules}
use Rattle.crontab.specs.declared.table.TableFault.{TableFault}
use Rattle.crontab.specs.Tables.{table_of, count_in, refusal_in}
use Rattle.crontab.proofs.Tables.{good-is}
use Rattle.std.specs.Prelude.{Ok, Err}
use Rattle.fifo.specs.Layout.{roomy, is_queue}
use Rattle.fifo.specs.Steps.{refilled}
use Rattle.reload.specs.Calls.{queue_in, reload_step, reload_read, reload_tables}

module _ (rules : Rules) (old new room : List ℕ) where
  pub reload-old : {f : TableFault} → table_of rules old ≡ Err f
      → (Err f.refusal ≡ (reload_tables rules old new room).answer) × (room ≡ (reload_tables rules old new room).room)
  unfolding reload_tables reload_read
  reload-old bad = (rw bad, rw bad)

  module _ (good : refusal_in (table_of rules old) ≡ 0) where
    pub reload-new : {f : TableFault} → table_of rules new ≡ Err f
        → (Err f.refusal ≡ (reload_tables rules old new room).answer) × (room ≡ (reload_tables rules old new room).room)
    unfolding reload_tables reload_read
    reload-new bad = let e = (good-is (table_of rules old) good).1 in (rw (e, bad), rw (e, bad))

    module _ (fine : refusal_in (table_of rules new) ≡ 0) where
      goes : reload_tables rules old new room ≡ reload_step rules old new room
      unfolding reload_tables reload_read
      goes = rw ((good-is (table_of rules old) good).1, (good-is (table_of rules new) fine).1)

      pub reload-none : (is_queue (count_in (table_of rules old)) room && roomy (count_in (table_of rules new)) room) ≡ false
          → (Err NotAQueue ≡ (reload_tables rules old new room).answer) × (room ≡ (reload_tables rules old new room).room)
      unfolding reload_step
      reload-none e = rw (goes, e) (refl, refl)

      pub reload-done : (is_queue (count_in (table_of rules old)) room && roomy (count_in (table_of rules new)) room) ≡ true
          → (Ok (length (queue_in rules old new room)) ≡ (reload_tables rules old new room).answer)
          × (refilled (queue_in rules old new room) room ≡ (reload_tables rules old new room).room)
      unfolding reload_step
      reload-done e = rw (goes, e) (refl, refl)

  -- the two tests, as code makes them
  pub both-are : {p q b : Bool} {m n : ℕ} → p ≡ is_queue m room → m ≡ count_in (table_of rules old) → q ≡ roomy n room → n ≡ count_in (table_of rules new) → (p && q) ≡ b
      → (is_queue (count_in (table_of rules old)) room && roomy (count_in (table_of rules new)) room) ≡ b
  both-are p m q n e = rw (← m, ← n, ← p, ← q) e
