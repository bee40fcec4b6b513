-- `normal::text::write` meets its contract, by the kind of the item: its text, and then the newline.
-- Assumes nothing.
use native.Mathlib.Omega.{arith}
use Rattle.octets.proofs.Written.{wrote_none, wrote-next}
use Rattle.normal.proofs.Writing.{line-none, setting-within, line-setting}
use Rattle.normal.proofs.Writing.{entry-within, line-entry}
use Rattle.normal.proofs.text.write.Goals as goal

pub part-name-requires : goal.part-name-requires
part-name-requires c = (setting-within _ _ c.in-Setting.is c.requires).0

pub part-value-requires : goal.part-value-requires
part-value-requires c = (setting-within _ _ c.in-Setting.is c.requires).1

pub part-command-requires : goal.part-command-requires
part-command-requires c = entry-within _ _ c.in-Entry.is c.requires

pub returns-in-Nothing : goal.returns-in-Nothing
returns-in-Nothing c =
    rw (line-none _ _ c.in-Nothing.is) (wrote_none c.args.at c.args.out.now (omega arith) (omega arith))

pub returns-in-Setting : goal.returns-in-Setting
returns-in-Setting c =
    rw (line-setting _ _ c.in-Setting.is, ← c.part-name.ensures.0, ← c.part-value.ensures.0)
    (wrote-next c.write-next.ensures c.byte.ensures)

pub returns-in-Entry : goal.returns-in-Entry
returns-in-Entry c =
    rw (line-entry _ _ c.in-Entry.is, ← c.part-command.ensures.0)
    (wrote-next c.write-next-in-Entry.ensures c.byte-in-Entry.ensures)
