-- `records::pack::write_record` meets its contract, by the kind of the item.
-- Assumes nothing.
use native.Mathlib.Omega.{arith}
use Rattle.octets.proofs.Written.{wrote_none}
use Rattle.normal.proofs.Writing.{setting-within, entry-within}
use Rattle.records.proofs.Packing.{part_none, part-setting, part-entry}
use Rattle.records.proofs.pack.write_record.Goals as goal

pub part-name-requires : goal.part-name-requires
part-name-requires c = (setting-within _ _ c.in-Setting.is c.requires.1).0

pub part-value-requires : goal.part-value-requires
part-value-requires c = (setting-within _ _ c.in-Setting.is c.requires.1).1

pub write_setting-requires : goal.write_setting-requires
write_setting-requires c =
    let short = c.requires.0 in
    (c.of_setting.ensures, omega (arith, short, c.part-name.ensures.1), omega (arith, short, c.part-value.ensures.1))

pub part-command-requires : goal.part-command-requires
part-command-requires c = entry-within _ _ c.in-Entry.is c.requires.1

pub write_entry-requires : goal.write_entry-requires
write_entry-requires c = omega (arith, c.part-command.ensures.1, c.requires.0)

pub returns-in-Nothing : goal.returns-in-Nothing
returns-in-Nothing c =
    rw (part_none _ _ c.in-Nothing.is) (wrote_none c.args.at c.args.out.now (omega arith) (omega arith))

pub returns-in-Setting : goal.returns-in-Setting
returns-in-Setting c =
    rw (part-setting _ _ c.in-Setting.is, ← c.part-name.ensures.0, ← c.part-value.ensures.0) c.write_setting.ensures

pub returns-in-Entry : goal.returns-in-Entry
returns-in-Entry c =
    rw (part-entry _ _ c.in-Entry.is, ← c.part-command.ensures.0) c.write_entry.ensures
