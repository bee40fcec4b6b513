-- All that a list is made by, under one name: an example that is computed says `unfolding listing`.
-- Assumes nothing.
use Rattle.octets.specs.OverFront.{over_front}
use Rattle.crontab.specs.Computing.{zoning}
use Rattle.octets.specs.Passing.{passing, passing_up_to}
use Rattle.firings.specs.Lists.{firings_of, at_minute, entries_from, merged_over, merged_up_to, fires_in, merged_of}
use Rattle.firings.specs.Calls.{filled, fitted, refused_entry, listed_entry, firings_found, firings_answer, firings_in, room_in, refused_merged, minutes_of, entries_of, listed_merged, merged_in}

unfoldable pub listing : Unit {0}
unfolding zoning over_front passing passing_up_to firings_of at_minute entries_from merged_over merged_up_to fires_in merged_of filled fitted refused_entry
    listed_entry firings_found firings_answer firings_in room_in refused_merged minutes_of entries_of listed_merged merged_in
listing = tt
