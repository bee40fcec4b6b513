-- All that the matching minutes and days of a schedule are found by, under one name: an example that is computed says
-- `unfolding firing`. `can_fire` and `next_after` aren't among it, since they search the whole cycle and calendar.
-- Assumes nothing.
use Rattle.octets.specs.Sets.{has_bit, with_bit, with_all, set_of, from_on, up_to}
use Rattle.calendar.specs.Computing.{dating}
use Rattle.schedule.specs.Match.{both_must, by_day_rule, matches_day, matches_time, matches_date, matches, is_due, matches_on, matches_at}
use Rattle.schedule.specs.Search.{least_of, from}
use Rattle.schedule.specs.Days.{matches_in_month, has_date, some_day}
use Rattle.schedule.specs.Local.{local_of, matches_in, local_date, matches_local}

unfoldable pub firing : Unit {0}
unfolding has_bit with_bit with_all set_of from_on up_to dating both_must by_day_rule matches_day matches_time matches_date matches is_due matches_on
    matches_at least_of from matches_in_month has_date some_day local_of matches_in local_date matches_local
firing = tt
