-- All that a table is written back by, under one name: an example that is computed says `unfolding writing`.
-- Assumes nothing.
use Rattle.octets.specs.Runs.{are_of}
use Rattle.octets.specs.OverFront.{over_front}
use Rattle.field.specs.Computing as field
use Rattle.crontab.specs.Computing.{reading}
use Rattle.normal.specs.Meanings.{entry_item, entries_in, meanings, meaning_of, item_in, line_items, items_in}
use Rattle.normal.specs.Texts.{quoted, starts_other, is_bare_name, is_bare_value, name_text, value_text, schedule_text, item_text, normal_text, are_short, fits}
use Rattle.normal.specs.Proper.{is_quotable, is_name, is_value, is_command, is_schedule, is_item, are_items}
use Rattle.normal.specs.NormalForms.{refused_form, form_over_front, form_of, unless_refused, normal_form}

unfoldable pub writing : Unit {0}
unfolding reading field.writing are_of over_front entry_item entries_in meanings meaning_of item_in line_items items_in quoted starts_other is_bare_name is_bare_value name_text
    value_text schedule_text item_text normal_text are_short fits is_quotable is_name is_value is_command is_schedule is_item are_items refused_form
    form_over_front form_of unless_refused normal_form
writing = tt
