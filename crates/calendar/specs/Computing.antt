-- All that dates and minutes are worked out by, under one name: an example that is computed says `unfolding dating`.
-- Assumes nothing.
use Rattle.calendar.specs.Gregorian.{leap, year_days, month_table, month_length, month_days}
use Rattle.calendar.specs.Walk.{span, walk}
use Rattle.calendar.specs.Dates.{weekday_of, year_of, month_of, date_at, date_of, exists, days_before, minute_at, minute_of}

unfoldable pub dating : Unit {0}
unfolding leap year_days month_table month_length month_days span walk weekday_of year_of month_of date_at date_of exists days_before
    minute_at minute_of
dating = tt
