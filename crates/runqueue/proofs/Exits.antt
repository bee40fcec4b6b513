-- Laws of the calls: what they come to where the table is refused, and where it isn't.
-- Assumes nothing.
use Rattle.std.specs.Prelude.{Err, Result, Ok}
use mathlib.Core.Path.{◌≡◌, sym, ◌∙◌}
use mathlib.Core.List.{List}
use Prim.Native.Nat.{ℕ, ◌≤◌}
use Rattle.crontab.specs.declared.table.Table.{Table}
use Rattle.crontab.specs.declared.table.TableFault.{TableFault}
use Rattle.crontab.specs.declared.select.Selection.{Selection}
use Rattle.crontab.proofs.Selections.{selected-good}
use Rattle.schedule.specs.Jumps.{case_of}
use Rattle.crontab.specs.declared.select.Selector.TheVariants.{AtBoot, At}
use Rattle.crontab.specs.Limits.{max_entries}
use Rattle.crontab.specs.Selections.{is_selected, selected_in}
use Rattle.fifo.specs.Layout.{mark_of, queue_of}
use Rattle.fifo.specs.Steps.{init_step, tick_step, pop_step, entry_step}
use Rattle.fifo.specs.Inner.{init_called, tick_called}
use Rattle.fifo.proofs.Theorems as fifo
use Rattle.runqueue.specs.Jobs.{jobs_of}
use Rattle.runqueue.specs.Calls.{init_table, tick_table, pop_table, entry_table}
use Rattle.runqueue.proofs.Joiners.{marked-boot, marked-due}
use Rattle.crontab.specs.Tables.{count_in, refusal_in}
use Rattle.crontab.proofs.Tables.{good-is}

module _ (t : Result Table TableFault) (room : List ℕ) where
  -- a refused table
  module _ {f : TableFault} (bad : t ≡ Err f) where
    pub init-bad : (Err f.refusal ≡ (init_table t room).answer) × (room ≡ (init_table t room).room)
    unfolding init_table
    init-bad = (rw bad, rw bad)

    pub tick-bad : (minute : ℕ) → (Err f.refusal ≡ (tick_table t minute room).answer) × (room ≡ (tick_table t minute room).room)
    unfolding tick_table
    tick-bad minute = (rw bad, rw bad)

    pub pop-bad : (Err f.refusal ≡ (pop_table t room).answer) × (room ≡ (pop_table t room).room)
    unfolding pop_table
    pop-bad = (rw bad, rw bad)

    pub entry-bad : (place : ℕ) → Err f.refusal ≡ entry_table t place room
    unfolding entry_table
    entry-bad place = rw bad

  -- a good one
  module _ (good : refusal_in t ≡ 0) where
    pub init-good : init_table t room ≡ init_step (jobs_of t) room
    unfolding init_table
    init-good = rw (good-is t good).1

    pub tick-good : (minute : ℕ) → tick_table t minute room ≡ tick_step (jobs_of t) minute room
    unfolding tick_table
    tick-good minute = rw (good-is t good).1

    pub pop-good : pop_table t room ≡ pop_step (count_in t) room
    unfolding pop_table
    pop-good = rw (good-is t good).1

    pub entry-good : (place : ℕ) → entry_table t place room ≡ entry_step (count_in t) place room
    unfolding entry_table
    entry-good place = rw (good-is t good).1

-- where the set that a call is handed has the table's chosen entries
module _ (t : Result Table TableFault) (few : count_in t ≤ max_entries) (room : List ℕ) {x : Selection} where
  pub init-called : Ok x ≡ selected_in AtBoot t → init_table t room ≡ init_called x.count x.members room
  unfolding jobs_of
  init-called is =
      let g = selected-good (is_selected AtBoot) t is in
      init-good t room g.0 ∙ rw g.1 (sym (fifo.init-called (jobs_of t) x.members room (marked-boot t few is)))

  pub tick-called : (minute : ℕ) → Ok x ≡ selected_in (At minute (case_of (mark_of room) minute)) t
      → tick_table t minute room ≡ tick_called x.count x.members minute room
  unfolding jobs_of queue_of
  tick-called minute is =
      let g = selected-good (is_selected (At minute (case_of (mark_of room) minute))) t is in
      tick-good t room g.0 minute ∙ rw g.1 (sym (fifo.tick-called (jobs_of t) x.members room minute (marked-due t few (mark_of room) minute is)))
