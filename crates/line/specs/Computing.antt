-- All that a line is read by, under one name: an example that is computed says `unfolding reading`.
-- Assumes nothing.
use Rattle.octets.specs.Classes.{is_account, is_control}
use Rattle.octets.specs.Runs.{skipped, trimmed, between}
use Rattle.field.specs.Computing as field
use Rattle.line.specs.Offsets.{is_formed, two_digits, hours_of, rest_of, minutes_of, is_behind, furthest, is_offset, signed, offset_of, read_offset, zone_of, is_allowed_setting, in_force}
use Rattle.line.specs.Assignments.{quoted_at, non_empty, name_at, closed, value_at, after_offset, with_offset, zoned, after_equals, after_name, setting_at}
use Rattle.line.specs.Times.{answered, field_at, after, fields_at}
use Rattle.line.specs.Words.{same, meanings, known, word_for, chosen, word_in, word_of, after_word, word_at}
use Rattle.line.specs.Users.{account_at, account_after, and_then, ended, column_at}
use Rattle.line.specs.Entries.{time_at, with_command, after_owner, with_user, after_time, entry_at}
use Rattle.line.specs.Lines.{starts_entry, content_from, content_of, byte_fault, read_line}
use Rattle.line.specs.Owners.{named_owner, behind, time_runs, line_owner}

unfoldable pub reading : Unit {0}
unfolding field.reading is_account is_control skipped trimmed between quoted_at non_empty name_at closed value_at after_equals after_name setting_at answered
    field_at after fields_at same meanings known word_for chosen word_in word_of after_word word_at account_at account_after and_then ended column_at
    time_at with_command after_owner with_user after_time entry_at starts_entry content_from content_of byte_fault read_line
    is_formed two_digits hours_of rest_of minutes_of is_behind furthest is_offset signed offset_of read_offset zone_of is_allowed_setting in_force after_offset with_offset zoned
    named_owner behind time_runs line_owner
reading = tt
