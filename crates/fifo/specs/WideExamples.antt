-- Queues of more than 255 entries, and numbers past 16 bits in the words of the claims, computed; and which queues are those of a table.
-- Assumes nothing.
use Rattle.std.specs.Prelude.{◌≡◌, refl, Bool, true, false, List, [], ◌∷◌, ℕ, replicate, Option, Some, None, None as Nothing, Result, Ok, Err}
use Rattle.refusal.specs.declared.Refusal.{Refusal}
use Rattle.refusal.specs.declared.Refusal.TheVariants.{NotAQueue}
use Rattle.octets.specs.Rows.{Hold}
use Rattle.fifo.specs.Queues.{is_waiting, entries_of, proper}
use Rattle.fifo.specs.Steps.{Jobs, init_step, tick_step, pop_step}
use Rattle.fifo.specs.Fairness.{marks}
use Rattle.fifo.specs.Buffer.{tick_in, pop_in}
use Rattle.fifo.specs.Steady.{steady}
use Rattle.fifo.specs.FairEvery.{steady_every}
use Rattle.fifo.specs.Examples.{running}

-- ---- which queues are those of a table, and which entries are queued

abbrev queued : ℕ × List ℕ → Bool
queued (e, l) = is_waiting e l

queued-are : Hold queued
    (((256, 0 ∷ 1 ∷ []), false)
    ∷ ((256, 0 ∷ 256 ∷ []), true)
    ∷ ((0, 256 ∷ 1 ∷ []), false)
    ∷ ((65536, 0 ∷ []), false)
    ∷ ((0, []), false)
    ∷ [])
unfolding is_waiting
queued-are = refl

-- entries and a mark, of a table of so many entries: one that isn't an entry, one twice, a mark off the calendar
abbrev proper_of : ℕ × Option ℕ × List ℕ → Bool
proper_of (n, mark, l) = proper n (record { mark = mark; waiting = l })

proper-are : Hold proper_of
    (((300, None, 299 ∷ 43 ∷ 0 ∷ []), true)
    ∷ ((300, Some 4223371679, []), true)
    ∷ ((300, Some 4223371680, []), false)
    ∷ ((300, None, 0 ∷ 300 ∷ []), false)
    ∷ ((300, None, 299 ∷ 0 ∷ 299 ∷ []), false)
    ∷ ((0, None, 0 ∷ []), false)
    ∷ ((0, None, []), true)
    ∷ [])
unfolding proper entries_of is_waiting
proper-are = refl

-- ---- 257 entries, of which each is called: 524 bytes are room for them, and a byte less isn't

abbrev unmarked : List ℕ → List ℕ
unmarked rest = 69 ∷ 82 ∷ 81 ∷ 49 ∷ 0 ∷ 0 ∷ 0 ∷ 0 ∷ rest

abbrev each : Bool → Jobs
each boot = record { count = 257; boot = λ e. boot; fixed = λ e. false; matches = λ e minute. true }

abbrev inits : ℕ → Result ℕ Refusal
inits size = (init_step (each true) (replicate size 0)).answer

inits-are : Hold inits ((524, Ok 257) ∷ (523, Err NotAQueue) ∷ (268, Err NotAQueue) ∷ [])
unfolding running
inits-are = refl

abbrev ticks : ℕ → Result ℕ Refusal
ticks size = (tick_step (each false) 65536 (unmarked (replicate size 0))).answer

ticks-are : Hold ticks ((516, Ok 257) ∷ (515, Err NotAQueue) ∷ (260, Err NotAQueue) ∷ [])
unfolding running
ticks-are = refl

abbrev pops : List ℕ → Result (Option ℕ) Refusal
pops rest = (pop_step 257 (unmarked rest)).answer

pops-are : Hold pops
    ((replicate 516 0, Ok Nothing)
    ∷ (replicate 515 0, Err NotAQueue)
    ∷ (replicate 260 0, Err NotAQueue)
    -- entry 256, and entry 257, which is none
    ∷ (1 ∷ 0 ∷ 0 ∷ 1 ∷ replicate 512 0, Ok (Some 256))
    ∷ (1 ∷ 0 ∷ 1 ∷ 1 ∷ replicate 512 0, Err NotAQueue)
    -- 258 of 257 entries
    ∷ (2 ∷ 1 ∷ replicate 514 0, Err NotAQueue)
    ∷ [])
unfolding running
pops-are = refl

-- ---- the words of the claims

-- the mark after some minutes that are announced one by one: none at first; one that is passed; one that holds; one that is too far above
abbrev mark_after_all : Option ℕ × ℕ × ℕ → Option ℕ
mark_after_all (mark, m, n) = marks mark m n

marks-are : Hold mark_after_all
    (((None, 5, 0), None)
    ∷ ((None, 5, 3), Some 7)
    ∷ ((Some 6, 5, 2), Some 6)
    ∷ ((Some 6, 5, 3), Some 7)
    ∷ ((Some 100, 5, 4), Some 100)
    ∷ ((Some 185, 5, 2), Some 6)
    ∷ ((Some 65534, 65535, 2), Some 65536)
    ∷ [])
unfolding running
marks-are = refl

-- each minute is announced, and a request follows each, or each second, or each third, of which two were announced before
steady-wide :
    (steady 65536 65535 3 ≡ tick_in 65535 65536 ∷ pop_in 65536 ∷ tick_in 65536 65536 ∷ pop_in 65536 ∷ tick_in 65537 65536 ∷ pop_in 65536 ∷ [])
    × (steady_every 65536 2 65535 5 0
    ≡ tick_in 65535 65536 ∷ tick_in 65536 65536 ∷ pop_in 65536 ∷ tick_in 65537 65536 ∷ tick_in 65538 65536 ∷ pop_in 65536 ∷ tick_in 65539 65536 ∷ [])
    × (steady_every 14 3 5 3 2 ≡ tick_in 5 14 ∷ pop_in 14 ∷ tick_in 6 14 ∷ tick_in 7 14 ∷ [])
unfolding steady steady_every
steady-wide = (refl, refl, refl)
