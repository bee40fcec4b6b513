-- Which entry of the new table an entry of the old one becomes, its target (L3), and the queue after a reload (L4). Entries are given by
-- their tables' bytes and their numbers.
-- Assumes nothing.
use Rattle.std.specs.Prelude.{ℕ, ◌-◌, Bool, cond, not, ◌&&◌, List, [], ◌∷◌, ◌++◌, ltb}
use Rattle.octets.specs.Search.{from}
use Rattle.octets.specs.Passing.{count_below, is_ranked}
use Rattle.line.specs.declared.Rules.{Rules}
use Rattle.crontab.specs.Tables.{table_of, count_in}
use Rattle.fifo.specs.Queues.{is_waiting}
use Rattle.runqueue.specs.Jobs.{job_at}
use Rattle.reload.specs.EntryMeanings.{EntryMeaning, duty_of, same_meaning}

-- L1: the meaning of entry i of a table
unfoldable pub duty_in : Rules → List ℕ → ℕ → EntryMeaning
duty_in rules s i = duty_of rules s (job_at (table_of rules s) i)

-- L1: entry i of one table and entry j of another have the same meaning
unfoldable pub same_in : Rules → List ℕ → ℕ → List ℕ → ℕ → Bool
same_in rules s i t j = same_meaning (duty_in rules s i) (duty_in rules t j)

-- L2: how many before it have the same meaning
unfoldable pub rank_in : Rules → List ℕ → ℕ → ℕ
rank_in rules s i = count_below (same_in rules s i s) i

-- L3: of the numbers below n that pass a test, the one of a rank, or the last one if there are fewer; n if none passes
unfoldable pub ranked_or_last : (ℕ → Bool) → ℕ → ℕ → ℕ
ranked_or_last p n rank =
    let total = count_below p n in
    from (is_ranked p (cond (ltb rank total) rank (total - 1))) n 0

-- L3: the entry that entry i becomes; the count of the new table if there is none
unfoldable pub target_in : Rules → List ℕ → List ℕ → ℕ → ℕ
target_in rules old new i = ranked_or_last (same_in rules old i new) (count_in (table_of rules new)) (rank_in rules old i)

-- L4: an entry of the new table, which has n, that isn't queued already
abbrev pub joins : ℕ → List ℕ → ℕ → Bool
joins n queue j = ltb j n && not (is_waiting j queue)

-- L4: the queue so far, and the next one if it joins
unfoldable pub joined : ℕ → List ℕ → ℕ → List ℕ
joined n queue j = cond (joins n queue j) (queue ++ j ∷ []) queue

-- L4: the old queue from its front on, each entry as its target
unfoldable pub reloaded_from : Rules → List ℕ → List ℕ → List ℕ → List ℕ → List ℕ
reloaded_from rules old new queue [] = queue
reloaded_from rules old new queue (e ∷ l) = reloaded_from rules old new (joined (count_in (table_of rules new)) queue (target_in rules old new e)) l

-- L4: the queue after a reload
abbrev pub reloaded : Rules → List ℕ → List ℕ → List ℕ → List ℕ
reloaded rules old new l = reloaded_from rules old new [] l
