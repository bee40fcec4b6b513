-- The theorems by table bytes used at their edges: a system table in the second dialect with 512 entries, its last entry, the first and the last minute of
-- the calendar, offsets of -12:00 and +14:00, and a first list of calls. An added hypothesis, or a part less of a conclusion, breaks one of these.
-- Assumes nothing.
use mathlib.Core.Path.{◌≡◌, refl, sym, ap, ◌∙◌}
use mathlib.Core.Logic.{◌↔◌}
use mathlib.Core.Bool.{true, false}
use mathlib.Core.List.{List, [], ◌∷◌}
use Prim.Native.Nat.{ℕ}
use native.Mathlib.Omega.{arith}
use lib.ListN.{length}
use Rattle.std.specs.Prelude.{Ok, Err, Some, None}
use Rattle.refusal.specs.declared.Refusal.{Refusal}
use Rattle.refusal.specs.Numbers.{number_of}
use Rattle.octets.specs.Passing.{passing, passing_up_to}
use Rattle.field.specs.declared.Dialect.TheVariants.{Wrapping}
use Rattle.line.specs.declared.Rules.{Rules}
use Rattle.line.specs.declared.Kind.TheVariants.{System}
use Rattle.crontab.specs.Tables.{table_of, count_in, refusal_in}
use Rattle.crontab.specs.Firings.{due_in, next_in}
use Rattle.std.specs.Prelude.{Some, Ok}
use Rattle.fifo.specs.Layout.{queue_of, roomy, is_queue}
use Rattle.fifo.specs.Steps.{fresh}
use Rattle.fifo.specs.Fairness.{Call, tick, pop, refusal, unrefused, Follows, ConsecutiveTicks, up_to, Names}
use Rattle.fifo.specs.RefusedCalls.{expected}
use Rattle.runqueue.specs.Calls.{pop_table, entry_table}
use Rattle.runqueue.specs.Demand.{jobs_in, biased_offset_of, bound_from, OnCalendar}
use Rattle.runqueue.specs.Chain.{Chain, due_after, joins_after}
use Rattle.runqueue.proofs.Theorems.{table-fair, table-refused-only, table-due, due-can-fire, chain-is-due, chain-is-ticks, chain-goes-on, answer-shifts, front-waits, request-moves}

abbrev system : Rules
system = record { kind = System; dialect = Wrapping }

-- ---- the third demand

-- The last of 512 entries, at +14:00, after an announcement of the calendar's last minute and a request: from minute 0 on it is named by the first request
-- after minute 21,036,960 + 180 + 512 - 1.
pub fair-east : (table : List ℕ) (m : ℕ) (one two : List ℕ) (second : List Call)
    → let jobs = jobs_in system table in
    jobs.count ≡ 512 → biased_offset_of system table 511 ≡ 1560 → due_in (table_of system table) 511 m ≡ Ok true
    → Follows jobs (fresh jobs) (tick 4223371679 one ∷ pop two ∷ second)
    → ConsecutiveTicks 1 21037651 true (unrefused jobs second)
    → Names jobs 511 (up_to 21037651 (unrefused jobs second))
fair-east table m one two second all east due follows =
    let bound : bound_from system table 511 0 ≡ 21037651 = rw (east, all) in
    let on : OnCalendar system table 511 0 = record { utc = omega (arith, bound); local = omega (arith, bound, east) } in
    rw bound at (table-fair system table 511 0 (tick 4223371679 one ∷ pop two ∷ []) second (due-can-fire system table 511 m due) follows on)

-- too little room is 28, before a minute off the calendar, which is 14
pub refused-four : (table one two : List ℕ)
    → let jobs = jobs_in system table in
    refusal_in (table_of system table) ≡ 0 → roomy jobs.count one ≡ false → roomy jobs.count two ≡ true
    → Follows jobs (fresh jobs) (tick 4223371680 one ∷ pop one ∷ tick 4223371680 two ∷ pop two ∷ [])
    → (refusal jobs (tick 4223371680 one) ≡ 28)
    × (refusal jobs (pop one) ≡ 28)
    × (refusal jobs (tick 4223371680 two) ≡ 14)
    × (refusal jobs (pop two) ≡ 0)
unfolding expected number_of
refused-four table one two good short enough follows =
    let x = table-refused-only system table (tick 4223371680 one ∷ pop one ∷ tick 4223371680 two ∷ pop two ∷ []) good follows in
    (x.0 ∙ rw short, x.1.0 ∙ rw short, x.1.1.0 ∙ rw enough, x.1.1.1.0 ∙ rw enough)

pub due-last : (table : List ℕ)
    → let jobs = jobs_in system table in
    jobs.count ≡ 512
    → (jobs.matches 511 4223371679 ≡ true → due_in (table_of system table) 511 4223371679 ≡ Ok true)
    × (jobs.matches 511 0 ≡ false → due_in (table_of system table) 511 0 ≡ Ok false)
due-last table all = (
  (λ m. table-due system table 511 4223371679 (omega (arith, all)) (omega arith) ∙ rw m),
  (λ m. table-due system table 511 0 (omega (arith, all)) (omega arith) ∙ rw m),
)

-- ---- the chain of next firings, of any table's last entry

module _ (rules : Rules) (table : List ℕ) where
  -- all of a chain from minute 0 on, and its first link back from it
  pub chain-last : (n k : ℕ) (refusal : Refusal) (chain : List ℕ)
      → let t = table_of rules table in
      (next_in t 511 0 ≡ Ok n → next_in t 511 n ≡ Ok k → next_in t 511 k ≡ Err refusal → n ∷ k ∷ [] ≡ due_after t 511 0)
      × (n ∷ chain ≡ due_after t 511 0 → next_in t 511 0 ≡ Ok n)
  chain-last n k refusal chain = (
    (λ p q r. (chain-is-due rules table 511 0 (n ∷ k ∷ [])).0 (p, (q, (refusal, r)))),
    (λ e. ((chain-is-due rules table 511 0 (n ∷ chain)).1 e).0),
  )

  -- from the calendar's last minute there is none
  pub chain-ends : (e : ℕ) → (refusal : Refusal) × (next_in (table_of rules table) e 4223371679 ≡ Err refusal)
  unfolding due_after passing_up_to passing
  chain-ends e = (chain-is-due rules table e 4223371679 []).1 refl

  -- and it is not over while a minute is due
  pub chain-goes-to-end : (e : ℕ) → due_in (table_of rules table) e 4223371679 ≡ Ok true → Chain (table_of rules table) e 4223371678 [] → ⊥
  unfolding due_after passing_up_to passing
  chain-goes-to-end e now none = let z = rw now at ((chain-is-due rules table e 4223371678 []).0 none) in omega (arith, ap length z)

  module _ (room : List ℕ) (line : is_queue (count_in (table_of rules table)) room ≡ true) where
    pub ticks-last : (queue_of room).mark ≡ None → (n k : ℕ) (refusal : Refusal) (chain : List ℕ)
        → let t = table_of rules table in
        (next_in t 511 0 ≡ Ok n → next_in t 511 n ≡ Ok k → next_in t 511 k ≡ Err refusal → n ∷ k ∷ [] ≡ joins_after t 511 0 room)
        × (n ∷ chain ≡ joins_after t 511 0 room → next_in t 511 0 ≡ Ok n)
    ticks-last none n k refusal chain = (
      (λ p q r. (chain-is-ticks rules table 511 0 room (n ∷ k ∷ []) line none).0 (p, (q, (refusal, r)))),
      (λ e. ((chain-is-ticks rules table 511 0 room (n ∷ chain) line none).1 e).0),
    )

    pub goes-on-last : (queue_of room).mark ≡ Some 4223371678 → (refusal : Refusal)
        → let t = table_of rules table in
        (next_in t 511 4223371678 ≡ Err refusal → [] ≡ joins_after t 511 4223371678 room)
        × (4223371679 ∷ [] ≡ joins_after t 511 4223371678 room → next_in t 511 4223371678 ≡ Ok 4223371679)
    goes-on-last at refusal = (
      (λ r. (chain-goes-on rules table 511 4223371678 room [] line at).0 (refusal, r)),
      (λ e. ((chain-goes-on rules table 511 4223371678 room (4223371679 ∷ []) line at).1 e).0),
    )

  -- ---- 400 years on, both ways: from the first minute at +14:00, and to the calendar's last minute in UTC

  pub shifts-ends : (e : ℕ)
      → let t = table_of rules table in
      (biased_offset_of rules table e ≡ 1560 → (next_in t e 0 ≡ Ok 1) ↔ (next_in t e 210379680 ≡ Ok 210379681))
      × (biased_offset_of rules table e ≡ 720 → (next_in t e 4012991998 ≡ Ok 4012991999) ↔ (next_in t e 4223371678 ≡ Ok 4223371679))
      × (biased_offset_of rules table e ≡ 0 → (next_in t e 720 ≡ Ok 721) ↔ (next_in t e 210380400 ≡ Ok 210380401))
  shifts-ends e = (
    (λ east. answer-shifts rules table e 0 1
        (rw east (record {
          start = record { utc = omega arith; from = omega arith; to = omega arith };
          shifted = record { utc = omega arith; from = omega arith; to = omega arith };
          answer = record { utc = omega arith; from = omega arith; to = omega arith };
          other = record { utc = omega arith; from = omega arith; to = omega arith };
        }))),
    (λ utc. answer-shifts rules table e 4012991998 4012991999
        (rw utc (record {
          start = record { utc = omega arith; from = omega arith; to = omega arith };
          shifted = record { utc = omega arith; from = omega arith; to = omega arith };
          answer = record { utc = omega arith; from = omega arith; to = omega arith };
          other = record { utc = omega arith; from = omega arith; to = omega arith };
        }))),
    (λ west. answer-shifts rules table e 720 721
        (rw west (record {
          start = record { utc = omega arith; from = omega arith; to = omega arith };
          shifted = record { utc = omega arith; from = omega arith; to = omega arith };
          answer = record { utc = omega arith; from = omega arith; to = omega arith };
          other = record { utc = omega arith; from = omega arith; to = omega arith };
        }))),
  )

  -- ---- looks: the entry at place 1 is named by the second request, and the one at place 511 moves to 510

  pub moves-last : (room : List ℕ) (e : ℕ)
      → let t = table_of rules table in
      refusal_in t ≡ 0 → is_queue (count_in t) room ≡ true
      → (entry_table t 1 room ≡ Ok (Some e) → (pop_table t (pop_table t room).room).answer ≡ Ok (Some e))
      × (entry_table t 511 room ≡ Ok (Some e) → entry_table t 510 (pop_table t room).room ≡ Ok (Some e))
  moves-last room e good line =
      let t = table_of rules table in (
        (λ at. sym (front-waits t (pop_table t room).room) ∙ request-moves rules table room 0 good line ∙ at),
        (λ at. request-moves rules table room 510 good line ∙ at),
      )
