-- What a table says of its entries to the queue (Q3): how many there are, which are boot entries, which are fixed, and which minutes match
-- each.
-- Assumes nothing.
use Rattle.std.specs.Prelude.{ℕ, get_or, Result}
use Rattle.crontab.specs.declared.entry.Entry.{Entry}
use Rattle.crontab.specs.declared.table.Table.{Table}
use Rattle.crontab.specs.declared.table.TableFault.{TableFault}
use Rattle.crontab.specs.Tables.{blank_entry, count_in, table_entries}
use Rattle.crontab.specs.Firings.{is_boot, is_fixed, fires_at}
use Rattle.fifo.specs.Steps.{Jobs}

-- E6: entry e; past the last there is none, and what is there doesn't matter
unfoldable pub job_at : Result Table TableFault → ℕ → Entry
job_at t e = get_or (table_entries t) e blank_entry

-- Q3, M3, M4, M6: a table's entries as jobs
unfoldable pub jobs_of : Result Table TableFault → Jobs
jobs_of t =
    record {
      count = count_in t;
      boot = λ e. is_boot (job_at t e);
      fixed = λ e. is_fixed (job_at t e);
      matches = λ e minute. fires_at (job_at t e) minute;
    }
