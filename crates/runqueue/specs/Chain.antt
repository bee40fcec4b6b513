-- Asking for the next firing again and again (I6, I7, I8), and what it is compared with, which is what `next`, `due` and `tick` promise by
-- table bytes. docs/GUARANTEES.md says the claims in plain words; that they hold is proved in proofs/Theorems.
-- Assumes nothing.
use Rattle.std.specs.Prelude.{ℕ, zero, suc, ◌+◌, ◌-◌, ◌≤◌, ◌≡◌, ◌↔◌, Bool, true, false, cond, List, [], ◌∷◌, Ok, Err, Result, Some, None}
use Rattle.refusal.specs.declared.Refusal.{Refusal}
use Rattle.schedule.specs.Local.{max_west}
use Rattle.octets.specs.Texts.{text}
use Rattle.octets.specs.Passing.{passing_up_to}
use Rattle.calendar.specs.Dates.{last_minute, cycle_minutes}
use Rattle.field.specs.declared.Dialect.TheVariants.{Rising}
use Rattle.line.specs.declared.Rules.{Rules}
use Rattle.line.specs.declared.Kind.TheVariants.{User}
use Rattle.crontab.specs.declared.table.Table.{Table}
use Rattle.crontab.specs.Tables.{table_of, count_in, refusal_in}
use Rattle.crontab.specs.declared.table.TableFault.{TableFault}
use Rattle.crontab.specs.Firings.{due_in, next_in}
use Rattle.fifo.specs.Queues.{is_waiting}
use Rattle.fifo.specs.Layout.{queue_of, roomy, is_queue}
use Rattle.fifo.specs.Steps.{refilled}
use Rattle.runqueue.specs.Calls.{init_table, tick_table}
use Rattle.runqueue.specs.Demand.{biased_offset_of}

-- ---- the chain

-- I6: the minutes that next firing answers for entry e from minute m on, until it is refused
abbrev pub Chain : Result Table TableFault → ℕ → ℕ → List ℕ → Type 0
Chain t e m [] = (refusal : Refusal) × (next_in t e m ≡ Err refusal)
Chain t e m (n ∷ chain) = (next_in t e m ≡ Ok n) × Chain t e n chain

-- ---- the later minutes at which an entry is due

-- M5: due says yes
abbrev pub is_yes : Result Bool Refusal → Bool
is_yes (Ok answer) = answer
is_yes (Err refusal) = false

-- I6: the minutes after minute m, rising, at which `due` says yes
unfoldable pub due_after : Result Table TableFault → ℕ → ℕ → List ℕ
due_after t e m = passing_up_to (λ n. is_yes (due_in t e n)) last_minute (m + 1)

-- ---- announcements one by one, on a queue that is emptied before each

-- I7: the queue is emptied, and its mark stays
unfoldable pub emptied : List ℕ → List ℕ
emptied room = refilled [] room

-- I7: the buffer after minute m is announced on it
unfoldable pub announced : Result Table TableFault → ℕ → List ℕ → List ℕ
announced t m room = (tick_table t m (emptied room)).room

-- I7: those of n minutes from m on at whose announcement entry e joins
unfoldable pub joins_over : Result Table TableFault → ℕ → ℕ → ℕ → List ℕ → List ℕ
joins_over t e zero m room = []
joins_over t e (suc n) m room =
    let after = announced t m room in
    let later = joins_over t e n (suc m) after in
    cond (is_waiting e (queue_of after).waiting) (m ∷ later) later

-- I7: of all minutes after m
unfoldable pub joins_after : Result Table TableFault → ℕ → ℕ → List ℕ → List ℕ
joins_after t e m room = joins_over t e (last_minute - m) (m + 1) room

-- ---- the claims

-- I6: the claim
abbrev pub ChainIsDue : Type 0
ChainIsDue = (rules : Rules) (table : List ℕ) (e m : ℕ) (chain : List ℕ)
    → let t = table_of rules table in
    Chain t e m chain ↔ (chain ≡ due_after t e m)

-- I7: on any queue of the table that has no mark
abbrev pub ChainIsTicks : Type 0
ChainIsTicks = (rules : Rules) (table : List ℕ) (e m : ℕ) (room chain : List ℕ)
    → let t = table_of rules table in
    is_queue (count_in t) room ≡ true → (queue_of room).mark ≡ None
    → Chain t e m chain ↔ (chain ≡ joins_after t e m room)

-- I7: and on one whose mark is the start, as a daemon's is
abbrev pub ChainGoesOn : Type 0
ChainGoesOn = (rules : Rules) (table : List ℕ) (e m : ℕ) (room chain : List ℕ)
    → let t = table_of rules table in
    is_queue (count_in t) room ≡ true → (queue_of room).mark ≡ Some m
    → Chain t e m chain ↔ (chain ≡ joins_after t e m room)

-- ---- a start that is a cycle later

-- I8: a minute on the calendar whose local minute is, too
pub record OnBoth (o m : ℕ) : Type 0 where
  pub utc : m ≤ last_minute
  pub from : max_west ≤ m + o
  pub to : m + o ≤ last_minute + max_west

-- I8: n is the start's answer, n' that of the later start
pub record Shifting (o m n n' : ℕ) : Type 0 where
  pub start : OnBoth o m
  pub shifted : OnBoth o (m + cycle_minutes)
  pub answer : OnBoth o n
  pub other : OnBoth o n'

-- I8: the claim
abbrev pub NextShifts : Type 0
NextShifts = (rules : Rules) (table : List ℕ) (e m n n' : ℕ)
    → let t = table_of rules table in
    Shifting (biased_offset_of rules table e) m n n'
    → next_in t e m ≡ Ok n → next_in t e (m + cycle_minutes) ≡ Ok n'
    → n' ≡ n + cycle_minutes

-- I8: and the one start has its answer just if the other has it
abbrev pub AnswerShifts : Type 0
AnswerShifts = (rules : Rules) (table : List ℕ) (e m n : ℕ)
    → let t = table_of rules table in
    Shifting (biased_offset_of rules table e) m n (n + cycle_minutes)
    → (next_in t e m ≡ Ok n) ↔ (next_in t e (m + cycle_minutes) ≡ Ok (n + cycle_minutes))

-- ---- the hypotheses can be met, and are needed

-- I7, Q2: a fresh queue has no mark
abbrev pub FreshUnmarked : Type 0
FreshUnmarked = (rules : Rules) (table room : List ℕ)
    → let t = table_of rules table in
    let fresh = (init_table t room).room in
    refusal_in t ≡ 0 → roomy (count_in t) room ≡ true → (is_queue (count_in t) fresh ≡ true) × ((queue_of fresh).mark ≡ None)

-- A6: a user table in the rising dialect
abbrev pub user_rules : Rules
user_rules = record { kind = User; dialect = Rising }

-- I7: a fixed entry of every midnight
abbrev pub midnight_table : List ℕ
midnight_table = text "0 0 * * * a\n"

-- I7: the same, read
abbrev pub midnights : Result Table TableFault
midnights = table_of user_rules midnight_table

-- I7: with a mark of that minute, 1970-01-02 00:00 is due, and nothing joins
abbrev pub MarkNeeded : Type 0
MarkNeeded = (room : List ℕ) → is_queue (count_in midnights) room ≡ true → (queue_of room).mark ≡ Some 1440
    → (due_in midnights 0 1440 ≡ Ok true) × (joins_over midnights 0 1 1440 room ≡ [])

-- I8: the last minutes that are on the calendar both ways, at +14:00 and at -12:00
abbrev pub BothEnds : Type 0
BothEnds = OnBoth 1560 4223370839 × OnBoth 0 4223371679

-- I8: evenings at -12:00, where 1970 begins locally with minute 720
abbrev pub west_evenings : List ℕ
west_evenings = text "CRON_TZ=-12:00\n0 18 * * * a\n"

-- I8: from minute 720 all is on the calendar
abbrev pub ShiftMet : Type 0
ShiftMet =
    let t = table_of user_rules west_evenings in
    Shifting (biased_offset_of user_rules west_evenings 0) max_west 1800 (1800 + cycle_minutes)
    × (next_in t 0 max_west ≡ Ok 1800)
    × (next_in t 0 (max_west + cycle_minutes) ≡ Ok (1800 + cycle_minutes))

-- I8: from minute 0 all but its local minute is, and the answers differ by another number
abbrev pub ShiftFails : Type 0
ShiftFails =
    let t = table_of user_rules west_evenings in
    let o = biased_offset_of user_rules west_evenings 0 in
    OnBoth o cycle_minutes
    × OnBoth o 1800
    × OnBoth o (cycle_minutes + 360)
    × (next_in t 0 0 ≡ Ok 1800)
    × (next_in t 0 cycle_minutes ≡ Ok (cycle_minutes + 360))
