-- All that C's numbers are worked out by, under one name: an example that is computed says `unfolding answering`. `next_after` isn't among
-- it, since it searches the calendar.
-- Assumes nothing.
use Rattle.octets.specs.OverFront.{over_front}
use Rattle.calendar.specs.Computing.{dating}
use Rattle.schedule.specs.Computing.{firing}
use Rattle.crontab.specs.Computing.{reading}
use Rattle.crontab.specs.Firings.{is_boot, is_fixed, fires_on, fires_at, due_of, next_of, due_answer, due_in, next_answer, next_in}
use Rattle.command.specs.Computing.{splitting}
use Rattle.firings.specs.Computing.{listing}
use Rattle.normal.specs.Computing.{writing}
use Rattle.records.specs.Computing.{coding}
use Rattle.fifo.specs.Examples.{running}
use Rattle.runqueue.specs.Jobs.{job_at, jobs_of}
use Rattle.runqueue.specs.Calls.{init_table, tick_table, pop_table, entry_table}
use Rattle.refusal.specs.Numbers.{number_of}
use Rattle.eremothyn.specs.Answer.{answer_of, result_number}
use Rattle.eremothyn.specs.Dates.{date_part, date_minute, fitted, date_written, date_answer, written_run, date_run}
use Rattle.eremothyn.specs.Tables.{check_number}
use Rattle.eremothyn.specs.Entries.{due_number, next_number, place_number}
use Rattle.eremothyn.specs.Settings.{setting_number, line_number}
use Rattle.eremothyn.specs.Owners.{owner_number}
use Rattle.eremothyn.specs.Commands.{split_number, input_number, split_in, split_of, stdin_in, stdin_length}
use Rattle.eremothyn.specs.NormalForms.{normal_number}
use Rattle.eremothyn.specs.Queue.{tick_number, pop_number}
use Rattle.eremothyn.specs.Lists.{filled_number}

unfoldable pub answering : Unit {0}
unfolding dating firing reading is_boot is_fixed fires_on fires_at due_of next_of due_answer due_in next_answer next_in splitting writing coding running job_at jobs_of
    init_table tick_table pop_table entry_table number_of answer_of result_number date_part date_minute fitted date_written date_answer written_run date_run over_front check_number due_number next_number place_number setting_number line_number owner_number split_number input_number
    split_in split_of stdin_in stdin_length normal_number tick_number pop_number listing filled_number
answering = tt
