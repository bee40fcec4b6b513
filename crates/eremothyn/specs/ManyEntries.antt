-- Entries whose number has nine bits, in what is asked, in runs and in a queue, at minutes that have seventeen: a system table in the second dialect
-- with 258 entries, of which the first 256 are boot entries, number 256 is of every minute from Friday to Sunday, and number 257 of every hour. Day 50 is
-- a Friday, and minute 72,660 its 11:00.
-- (That an asked number isn't cut to 8, 16 or 32 bits is `wide-entries` of Examples, for every call.)
-- Assumes nothing.
use Rattle.std.specs.Prelude.{◌≡◌, refl, List, [], ◌∷◌, ◌++◌, ℕ, zero, suc, ◌/◌, ◌%◌, replicate}
use Rattle.octets.specs.Texts.{text}
use Rattle.eremothyn.specs.Calls.{due_call, entry_line_call, command_offset_call, group_offset_call, firings_run, merged_firings_minutes, merged_firings_entries}
use Rattle.eremothyn.specs.Computing.{answering}
use Rattle.eremothyn.specs.FourWays.{repeated, unmarked, marked, init, tick, pop, look, run}

-- each boot entry has 12 bytes, so that line 257 begins at byte 3,072
abbrev many : List ℕ
many = repeated 256 (text "@reboot u x\n") ++ text "* * * * 5-0 u:g/c y%i\n0 * * * * v z\n"

-- entry 256: its line, where its command and its group begin, and whether it is due on Friday
last_entry :
    entry_line_call many 1 1 256 ∷ command_offset_call many 1 1 256 ∷ group_offset_call many 1 1 256 ∷ due_call many 1 1 256 72660 ∷ []
    ≡ 257 ∷ 3090 ∷ 3086 ∷ 1 ∷ []
unfolding answering repeated
last_entry = refl

-- both fire at 72,660; the runs have a place or two more than is filled
last-lists :
    (firings_run many 1 1 256 72659 72661 (7 ∷ 7 ∷ 7 ∷ []) ≡ 72660 ∷ 72661 ∷ 7 ∷ [])
    × (merged_firings_minutes many 1 1 72659 72661 (replicate 4 7) (replicate 5 7) ≡ 72660 ∷ 72660 ∷ 72661 ∷ 7 ∷ [])
    × (merged_firings_entries many 1 1 72659 72661 (replicate 4 7) (replicate 5 7) ≡ 256 ∷ 257 ∷ 256 ∷ 7 ∷ 7 ∷ [])
unfolding answering repeated
last-lists = (refl, refl, refl)

-- ---- the queue

-- n entries from e on, each in two bytes, the low one first
entries_from : ℕ → ℕ → List ℕ
entries_from zero e = []
entries_from (suc n) e = e % 256 ∷ e / 256 ∷ entries_from n (suc e)

-- The boot entries are queued, 256 of them, then the other two: their counts are 0 1 and 2 1. The two bytes that no entry needs stay.
all-queued :
    run many 1 1 (replicate 528 7) (init ∷ tick 72660 ∷ [])
    ≡ (256, unmarked (0 ∷ 1 ∷ entries_from 256 0 ++ replicate 6 7))
    ∷ (2, marked (2 ∷ 1 ∷ entries_from 258 0 ++ replicate 2 7))
    ∷ []
unfolding run answering repeated entries_from
all-queued = refl

-- Only the other two are: the first is named, the second comes to its place, and where that was its bytes stay.
last-named :
    run many 1 1 (unmarked (replicate 518 0)) (tick 72660 ∷ look 1 ∷ pop ∷ [])
    ≡ (2, marked (2 ∷ 0 ∷ 0 ∷ 1 ∷ 1 ∷ 1 ∷ replicate 512 0))
    ∷ (257, marked (2 ∷ 0 ∷ 0 ∷ 1 ∷ 1 ∷ 1 ∷ replicate 512 0))
    ∷ (256, marked (1 ∷ 0 ∷ 1 ∷ 1 ∷ 1 ∷ 1 ∷ replicate 512 0))
    ∷ []
unfolding run answering repeated
last-named = refl
