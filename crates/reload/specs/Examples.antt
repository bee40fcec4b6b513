-- A reload's rules on numbers past 8 bits, computed: which of those that pass a test has a rank, and how a queue is made. (Tables are in eremothyn's
-- Examples and FourWays.)
-- Assumes nothing.
use Rattle.std.specs.Prelude.{refl, List, [], ◌∷◌, ℕ, leb}
use Rattle.octets.specs.Rows.{Hold}
use Rattle.fifo.specs.Queues.{is_waiting}
use Rattle.reload.specs.Targets.{ranked_or_last, joined}
use Rattle.reload.specs.Computing.{reloading}

-- of the numbers from 299 on, below so many: the one of a rank, the last where there are fewer, and the count itself where there is none
abbrev ranked : ℕ × ℕ → ℕ
ranked (n, rank) = ranked_or_last (λ j. leb 299 j) n rank

ranks : Hold ranked
    (((512, 0), 299)
    ∷ ((512, 1), 300)
    ∷ ((512, 212), 511)
    ∷ ((512, 213), 511)
    ∷ ((512, 300), 511)
    ∷ ((301, 1), 300)
    ∷ ((301, 2), 300)
    ∷ ((300, 7), 299)
    ∷ ((299, 0), 299)
    ∷ ((0, 0), 0)
    ∷ [])
unfolding reloading
ranks = refl

-- an entry joins at the end, once, if the new table has it
abbrev joined_to : List ℕ × ℕ → List ℕ
joined_to (queue, j) = joined 400 queue j

joins : Hold joined_to
    (((44 ∷ 1 ∷ [], 300), 44 ∷ 1 ∷ 300 ∷ [])
    ∷ ((300 ∷ 1 ∷ [], 300), 300 ∷ 1 ∷ [])
    ∷ ((300 ∷ 1 ∷ [], 44), 300 ∷ 1 ∷ 44 ∷ [])
    ∷ (([], 399), 399 ∷ [])
    ∷ (([], 400), [])
    ∷ (([], 656), [])
    ∷ [])
unfolding reloading is_waiting
joins = refl
