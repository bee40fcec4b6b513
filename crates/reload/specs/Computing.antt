-- All that a reload is worked out by, under one name.
-- Assumes nothing.
use Rattle.octets.specs.Search.{least_of, from}
use Rattle.octets.specs.Passing.{count_below, is_ranked}
use Rattle.fifo.specs.Steps.{refilled}
use Rattle.reload.specs.EntryMeanings.{same_flag, same_stars, same_times, same_when, same_owner, clock_of, duty_of, same_meaning, means_as}
use Rattle.reload.specs.Targets.{duty_in, same_in, rank_in, ranked_or_last, target_in, joined, reloaded_from}
use Rattle.reload.specs.Calls.{reload_step, reload_read, reload_tables}

unfoldable pub reloading : Unit {0}
unfolding least_of from count_below is_ranked refilled same_flag same_stars same_times same_when same_owner clock_of duty_of same_meaning means_as duty_in same_in rank_in ranked_or_last target_in joined reloaded_from reload_step reload_read reload_tables
reloading = tt
