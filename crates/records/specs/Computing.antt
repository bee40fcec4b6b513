-- All that records are written and read by, under one name: an example that is computed says `unfolding coding`.
-- Assumes nothing.
use Rattle.octets.specs.Sets.{has_bit}
use Rattle.octets.specs.LittleEndian.{little_endian, number_of}
use Rattle.normal.specs.Computing.{writing}
use Rattle.records.specs.Formats.{record_of, flags_of, schedule_bytes, setting_kind_of, kind_of, body_of, records_of}
use Rattle.records.specs.Readings.{number_at, is_cut, records_in, split, stars_of, schedule_at, timed_in, setting_in, meant, is_skipped, content_of}
use Rattle.records.specs.Readings.{after_record, decode_from, decode, decoded_items, decoded_refusal, decoded_fault}
use Rattle.records.specs.Calls.{compiled, text_of, unless_bad, decompiled, record_fault}

unfoldable pub coding : Unit {0}
unfolding writing has_bit little_endian number_of record_of flags_of schedule_bytes setting_kind_of kind_of body_of records_of number_at is_cut records_in split stars_of schedule_at
    timed_in setting_in meant is_skipped content_of after_record decode_from decode decoded_items decoded_refusal decoded_fault compiled text_of unless_bad decompiled record_fault
coding = tt
