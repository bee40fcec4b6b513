-- A whole run, computed from the definitions in a buffer of 90 bytes: table `* * * * * a`, `@reboot b`, `0 * * * * c`.
-- Assumes nothing.
use Rattle.std.specs.Prelude.{◌≡◌, refl, ℕ, zero, suc, ◌%◌, Bool, true, false, List, [], ◌∷◌, ◌++◌, map, ◌⊎◌, eqb, replicate, Option, Some, None, Result, Ok, Err}
use Rattle.std.proofs.Common.{sym, true≢false, inl, inr, arith}
use Rattle.refusal.specs.declared.Refusal.{Refusal}
use Rattle.refusal.specs.declared.Refusal.TheVariants.{NotOnCalendar, NotAQueue}
use Rattle.refusal.specs.Numbers.{number_of}
use Rattle.octets.specs.OverFront as front
use Rattle.octets.specs.Search.{least_of, from, passes}
use Rattle.schedule.specs.Jumps.{case_of, judged, mark_after}
use Rattle.fifo.specs.Queues.{is_waiting, entries_of, pick}
use Rattle.fifo.specs.Layout.{numbers, bytes, number32, layout, format_of, mark_of, count_of, queue_of, image, stored, roomy, is_head, is_queue}
use Rattle.fifo.specs.Steps.{Jobs, fresh, init_step, calls, joins, joiners, ticked, tick_step, front, behind, popped, pop_step, standing, entry_step}
use Rattle.fifo.specs.Refusals.{tick_refusal, pop_refusal}
use Rattle.fifo.specs.Fairness.{Call, tick, pop, room_of, room_after, refusal, is_refused, unrefused, queue_after, Follows, ConsecutiveTicks, up_to, Names, bound}
use Rattle.fifo.specs.RefusedCalls.{expected, Expected}
use Rattle.fifo.specs.Buffer.{tick_in, pop_in, lent, call_on, buffer_after, calls_on, started}
use Rattle.fifo.specs.Steady.{steady}
use Rattle.fifo.specs.FairEvery.{ConsecutiveTicksEvery, bound_every, steady_every}
use Rattle.fifo.specs.Waits.{requests, up_to_request}

three : Jobs
three = record { count = 3; boot = λ e. eqb e 1; fixed = λ e. false; matches = matching }
  where
    matching : ℕ → ℕ → Bool
    matching zero minute = true
    matching (suc zero) minute = false
    matching (suc (suc e)) minute = eqb (minute % 60) 0

-- what a call comes back with
answer : Jobs → Call → Result ℕ Refusal ⊎ Result (Option ℕ) Refusal
answer jobs (tick minute room) = inl (tick_step jobs minute room).answer
answer jobs (pop room) = inr (pop_step jobs.count room).answer

-- all that a run of calls is made of, to be computed
unfoldable pub running : Unit {0}
unfolding calls_on call_on buffer_after lent room_after started init_step fresh tick_step ticked joiners joins calls pop_step front behind popped standing entry_step
    is_queue is_head roomy stored front.over_front image layout queue_of count_of format_of mark_of number32 case_of judged mark_after passes from least_of
    numbers bytes entries_of is_waiting pick
running = tt

-- a request: entry 1. Announce 59: 1 joined. Announce 60: 1 joined. Requests: entry 0, entry 2, nothing.
whole_run :
    map (answer three) (calls_on three (started three 88 (replicate 90 7)) (pop_in 88 ∷ tick_in 59 90 ∷ tick_in 60 88 ∷ pop_in 16 ∷ pop_in 90 ∷ pop_in 88 ∷ []))
    ≡ inr (Ok (Some 1)) ∷ inl (Ok 1) ∷ inl (Ok 1) ∷ inr (Ok (Some 0)) ∷ inr (Ok (Some 2)) ∷ inr (Ok None) ∷ []
unfolding three answer running
whole_run = refl

-- the bytes of a head with no mark, and of one entry more
abbrev begun : List ℕ
begun = 69 ∷ 82 ∷ 81 ∷ 49 ∷ 0 ∷ 0 ∷ 0 ∷ 0 ∷ []

-- an empty queue; one byte too few: R28; entry 0 twice: R28; a minute off the calendar: R14; a buffer in which no queue was made,
-- of zeros, and one with another format number: R28; entry 2, which is the last, and entry 3: R28; four of three entries, where the room ends: R28
refusals-run :
    map (answer three)
    (pop (begun ++ replicate 8 0)
    ∷ pop (begun ++ replicate 7 0)
    ∷ pop (begun ++ 2 ∷ replicate 7 0)
    ∷ tick 4223371680 (begun ++ replicate 8 0)
    ∷ pop (replicate 90 0)
    ∷ tick 59 (replicate 90 0)
    ∷ pop (70 ∷ 82 ∷ 81 ∷ 49 ∷ replicate 12 0)
    ∷ pop (begun ++ 1 ∷ 0 ∷ 2 ∷ replicate 5 0)
    ∷ pop (begun ++ 1 ∷ 0 ∷ 3 ∷ replicate 5 0)
    ∷ pop (begun ++ 4 ∷ 0 ∷ 0 ∷ 0 ∷ 1 ∷ 0 ∷ 2 ∷ 0 ∷ [])
    ∷ [])
    ≡ inr (Ok None) ∷ inr (Err NotAQueue) ∷ inr (Err NotAQueue) ∷ inl (Err NotOnCalendar) ∷ inr (Err NotAQueue) ∷ inl (Err NotAQueue) ∷ inr (Err NotAQueue)
    ∷ inr (Ok (Some 2)) ∷ inr (Err NotAQueue) ∷ inr (Err NotAQueue) ∷ []
unfolding three answer running
refusals-run = refl

-- a mark of the calendar's last minute, and one of the minute after it, which is R28 in a request and in an announcement
abbrev marked : ℕ → List ℕ
marked low = 69 ∷ 82 ∷ 81 ∷ 49 ∷ low ∷ 137 ∷ 187 ∷ 251 ∷ replicate 8 0

marks-run :
    map (answer three) (pop (marked 160) ∷ tick 4223371679 (marked 160) ∷ pop (marked 161) ∷ tick 59 (marked 161) ∷ tick 4223371680 (marked 161) ∷ [])
    ≡ inr (Ok None) ∷ inl (Ok 1) ∷ inr (Err NotAQueue) ∷ inl (Err NotAQueue) ∷ inl (Err NotAQueue) ∷ []
unfolding three answer running
marks-run = refl

-- The demand's second list: requests may come before the first announcement, and several after each; it counts up to the first after the last.
consecutive : ConsecutiveTicks 5 2 true (pop [] ∷ tick 5 [] ∷ pop [] ∷ pop [] ∷ tick 6 [] ∷ pop [] ∷ pop [] ∷ [])
consecutive = (refl, refl, (refl, refl, (refl, refl)))

up-to : up_to 2 (pop [] ∷ tick 5 [] ∷ pop [] ∷ pop [] ∷ tick 6 [] ∷ pop [] ∷ pop [] ∷ []) ≡ pop [] ∷ tick 5 [] ∷ pop [] ∷ pop [] ∷ tick 6 [] ∷ pop [] ∷ []
up-to = refl

-- Two entries, of every minute and of every even minute: a gap of 2. After minute 0 the second is named by the request of minute
-- 3 = 2 + 2 - 1, and by none before: the bound can't be lower.
pair : Jobs
pair = record { count = 2; boot = λ e. false; fixed = λ e. false; matches = matching }
  where
    matching : ℕ → ℕ → Bool
    matching zero minute = true
    matching (suc e) minute = eqb (minute % 2) 0

bound-is-met :
    map (answer pair) (calls_on pair (started pair 14 (replicate 14 0)) (tick_in 1 14 ∷ pop_in 14 ∷ tick_in 2 14 ∷ pop_in 14 ∷ tick_in 3 14 ∷ pop_in 14 ∷ []))
    ≡ inl (Ok 1) ∷ inr (Ok (Some 0)) ∷ inl (Ok 2) ∷ inr (Ok (Some 0)) ∷ inl (Ok 1) ∷ inr (Ok (Some 1)) ∷ []
unfolding pair answer running
bound-is-met = refl

-- "t + 21,036,960 + N - 1": one minute more for each entry but one
bounds : (bound pair 21036960 ≡ 21036961) × (bound three 21036960 ≡ 21036962)
unfolding pair three
bounds = (refl, refl)

-- ---- requests every k announcements

-- Of any two announcements in a row one has a request after it; at the end one may have none.
consecutive-every : ConsecutiveTicksEvery 2 5 4 0 (tick 5 [] ∷ pop [] ∷ tick 6 [] ∷ tick 7 [] ∷ pop [] ∷ pop [] ∷ tick 8 [] ∷ [])
consecutive-every = (omega arith, refl, (omega arith, refl, (omega arith, refl, (omega arith, refl, (refl, omega arith)))))

-- Not so: three in a row, two at the end, another minute, one too few, one too many.
not-consecutive-every :
    (ConsecutiveTicksEvery 2 5 3 0 (tick 5 [] ∷ tick 6 [] ∷ tick 7 [] ∷ pop [] ∷ []) → ⊥)
    × (ConsecutiveTicksEvery 2 5 2 0 (tick 5 [] ∷ tick 6 [] ∷ []) → ⊥)
    × (ConsecutiveTicksEvery 2 5 2 0 (tick 5 [] ∷ tick 7 [] ∷ pop [] ∷ []) → ⊥)
    × (ConsecutiveTicksEvery 2 5 3 0 (tick 5 [] ∷ tick 6 [] ∷ pop [] ∷ []) → ⊥)
    × (ConsecutiveTicksEvery 2 5 1 0 (tick 5 [] ∷ tick 6 [] ∷ pop [] ∷ []) → ⊥)
not-consecutive-every = (
  λ p. omega (arith, p.2.2.0),
  λ p. omega (arith, p.2.2.1),
  λ p. omega (arith, p.2.1),
  λ p. omega (arith, p.2.2.0),
  λ p. p.2,
)

-- For k = 2 the second of the pair, with a gap of 2, is named by the request of minute 5 = 2 + 2 * 2 - 1, and by none before.
bound-every-is-met :
    map (answer pair)
    (calls_on pair (started pair 14 (replicate 14 0)) (tick_in 1 14 ∷ pop_in 14 ∷ tick_in 2 14 ∷ tick_in 3 14 ∷ pop_in 14 ∷ tick_in 4 14 ∷ tick_in 5 14 ∷ pop_in 14 ∷ []))
    ≡ inl (Ok 1) ∷ inr (Ok (Some 0)) ∷ inl (Ok 2) ∷ inl (Ok 0) ∷ inr (Ok (Some 0)) ∷ inl (Ok 1) ∷ inl (Ok 0) ∷ inr (Ok (Some 1)) ∷ []
unfolding pair answer running
bound-every-is-met = refl

-- k minutes for each entry, less one: for k = 1 the demand's bound
bounds-every : (bound_every pair 2 2 ≡ 5) × (bound_every three 1 21036960 ≡ 21036962) × (bound_every three 10 21037140 ≡ 21037169)
unfolding pair three
bounds-every = (refl, refl, refl)

-- each minute is announced, and a request follows each third
steady-every-list : steady_every 14 3 5 4 0 ≡ tick_in 5 14 ∷ tick_in 6 14 ∷ tick_in 7 14 ∷ pop_in 14 ∷ tick_in 8 14 ∷ []
unfolding steady_every
steady-every-list = refl

-- ---- how long an entry waits

-- the calls up to a request, and how many there are
up-to-request :
    let cs = tick 5 [] ∷ pop [] ∷ tick 6 [] ∷ tick 7 [] ∷ pop [] ∷ pop [] ∷ tick 8 [] ∷ [] in
    (up_to_request 0 cs ≡ [])
    × (up_to_request 2 cs ≡ tick 5 [] ∷ pop [] ∷ tick 6 [] ∷ tick 7 [] ∷ pop [] ∷ [])
    × (up_to_request 4 cs ≡ cs)
    × (requests cs ≡ 3)
up-to-request = (refl, refl, refl, refl)

-- ---- the words of the demand's claim

-- The queue of entry 1 and no mark, and that of the entries 1, 0 and 2 with the mark 60, with other bytes after each.
abbrev booted : List ℕ
booted = begun ++ 1 ∷ 0 ∷ 1 ∷ 0 ∷ replicate 20 7

abbrev after60 : List ℕ
after60 = 69 ∷ 82 ∷ 81 ∷ 49 ∷ 61 ∷ 0 ∷ 0 ∷ 0 ∷ 3 ∷ 0 ∷ 1 ∷ 0 ∷ 0 ∷ 0 ∷ 2 ∷ 0 ∷ replicate 5 9

-- A list that goes on from the fresh queue: a buffer that is too short may hold anything, what comes after a queue doesn't matter, buffers may differ
-- in size, and a call that is refused, with R28 or with R14, leaves the line.
follows : Follows three (fresh three) (pop [] ∷ tick 60 (replicate 15 1) ∷ tick 4223371680 booted ∷ tick 60 booted ∷ pop after60 ∷ [])
unfolding three running room_of queue_after is_refused refusal tick_refusal pop_refusal number_of
follows = ((λ h. absurd (true≢false (sym h))), ((λ h. absurd (true≢false (sym h))), ((λ h. refl), ((λ h. refl), ((λ h. refl), tt)))))

-- Refused calls are dropped, those with R28 and those with R14; "nothing waits" is no refusal.
unrefused-run :
    unrefused three (pop [] ∷ tick 60 (replicate 15 1) ∷ tick 4223371680 booted ∷ tick 60 booted ∷ pop after60 ∷ pop (begun ++ replicate 8 0) ∷ [])
    ≡ tick 60 booted ∷ pop after60 ∷ pop (begun ++ replicate 8 0) ∷ []
unfolding three running unrefused is_refused refusal tick_refusal pop_refusal number_of
unrefused-run = refl

-- Only a request names an entry, and only the front: entry 0 has joined, waits after entry 1, and isn't named.
named : Names three 1 (tick 60 booted ∷ pop after60 ∷ [])
unfolding three running
named = inl refl

not_named : Names three 0 (tick 60 booted ∷ pop after60 ∷ []) → ⊥
unfolding three running
not_named (inl e) = let z : ◌≡◌ {A = ℕ} 1 0 = cc in omega arith
not_named (inr e) = e

-- a call is lent as many bytes of the buffer as it says: 15 are too few for three entries, and 16 enough
lent-run :
    map (answer three) (calls_on three (started three 88 (replicate 90 7)) (pop_in 15 ∷ tick_in 60 15 ∷ pop_in 16 ∷ []))
    ≡ inr (Err NotAQueue) ∷ inl (Err NotAQueue) ∷ inr (Ok (Some 1)) ∷ []
unfolding three answer running
lent-run = refl

-- each minute is announced, and one request follows
steady-list : steady 14 5 2 ≡ tick_in 5 14 ∷ pop_in 14 ∷ tick_in 6 14 ∷ pop_in 14 ∷ []
unfolding steady
steady-list = refl

-- Which refusal the room's length and the minute call for: R28 before R14. A call is as expected only if it is refused for these: a room that is
-- big enough and holds no line isn't.
expected-are :
    map (expected three)
    (tick 4223371680 (replicate 15 0) ∷ tick 4223371680 booted ∷ tick 4223371679 booted ∷ tick 59 (replicate 15 0) ∷ pop (replicate 15 0) ∷ pop (replicate 16 0) ∷ [])
    ≡ 28 ∷ 14 ∷ 0 ∷ 28 ∷ 28 ∷ 0 ∷ []
unfolding three running expected number_of
expected-are = refl

not-expected : Expected three (pop (replicate 90 0) ∷ []) → ⊥
unfolding three running expected refusal pop_refusal number_of
not-expected (e, rest) = omega (arith, e)
