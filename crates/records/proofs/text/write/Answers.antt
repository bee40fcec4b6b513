-- `records::text::write` meets its contract, by what is found: its text, and then the newline.
-- Assumes nothing.
use native.Mathlib.Omega.{arith}
use Rattle.octets.proofs.Written.{wrote_none, wrote-next}
use Rattle.records.proofs.Readers.{found_none, entry-within, found-entry, setting-within, found-setting}
use Rattle.records.proofs.text.write.Goals as goal

pub part-command-requires : goal.part-command-requires
part-command-requires c = (entry-within _ _ c.in-Entry.is c.requires, omega arith)

pub part-name-requires : goal.part-name-requires
part-name-requires c = let w = setting-within _ _ c.in-Setting.is c.requires in (w.0, w.1)

pub part-value-requires : goal.part-value-requires
part-value-requires c = ((setting-within _ _ c.in-Setting.is c.requires).1, omega arith)

pub returns-in-Skipped : goal.returns-in-Skipped
returns-in-Skipped c =
    rw (found_none _ _ c.in-Skipped.is) (wrote_none c.args.at c.args.out.now (omega arith) (omega arith))

pub returns-in-Entry : goal.returns-in-Entry
returns-in-Entry c =
    rw (found-entry _ _ c.in-Entry.is, ← c.part-command.ensures.0) (wrote-next c.write-next.ensures c.byte.ensures)

pub returns-in-Setting : goal.returns-in-Setting
returns-in-Setting c =
    rw (found-setting _ _ c.in-Setting.is, ← c.part-name.ensures.0, ← c.part-value.ensures.0)
    (wrote-next c.write-next-in-Setting.ensures c.byte-in-Setting.ensures)
