-- `records::body::is_setting` meets its contract.
-- Assumes nothing.
use Rattle.normal.specs.Proper.{is_item}
use Rattle.records.specs.Formats.{kind_of}
use Rattle.records.proofs.body.is_setting.Goals as goal

pub returns : goal.returns
unfolding is_item kind_of
returns c = rw (c.from.ensures, c.of_setting.ensures, c.is_name.ensures, c.is_value.ensures, c.is_zoned.ensures)
