-- All that a field is read by, and written by, each under one name: an example that is computed says `unfolding reading`.
-- Assumes nothing.
use Rattle.octets.specs.Classes.{is_blank, is_quote, of_class}
use Rattle.octets.specs.Runs.{run}
use Rattle.octets.specs.Search.{least_of, from}
use Rattle.octets.specs.Digits.{number_text}
use Rattle.octets.specs.Sets.{has_bit, with_bit, put, with_all, set_of, from_on, up_to}
use Rattle.field.specs.Parts.{contains, before, after, after_each, split}
use Rattle.field.specs.Numbers.{is_digit, are_digits, value_from, number_of}
use Rattle.field.specs.Names.{lower, alike, month_names, weekday_names, named, name_of, is_sunday}
use Rattle.field.specs.Elements.{is_element, ranging, number_or, end_of, upper_of, after_dash, element_of}
use Rattle.field.specs.Values.{every_step, values_of, last_of, range_of, bit_of, including}
use Rattle.field.specs.Limits.{in_dialect}
use Rattle.field.specs.Judgement.{outside, judged}
use Rattle.field.specs.Fields.{are_elements, judged_all, list_field, star_element, star_field, read_field}
use Rattle.field.specs.Written.{star_set, gives, step_of, star_text, having, members, after_commas, list_text, field_text, is_field}

unfoldable pub reading : Unit {0}
unfolding is_blank is_quote of_class run with_bit put with_all set_of from_on up_to contains before after after_each split is_digit are_digits value_from
    number_of lower alike month_names weekday_names named name_of is_sunday is_element ranging number_or end_of upper_of after_dash element_of
    every_step values_of last_of range_of bit_of including in_dialect outside judged are_elements judged_all list_field star_element star_field read_field
reading = tt

unfoldable pub writing : Unit {0}
unfolding reading least_of from number_text has_bit star_set gives step_of star_text having members after_commas list_text field_text is_field
writing = tt
