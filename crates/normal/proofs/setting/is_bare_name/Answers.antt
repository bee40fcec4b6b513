-- `normal::setting::is_bare_name` meets its contract: it tests what the definition does.
-- Assumes nothing.
use Rattle.octets.specs.declared.class.Class.TheVariants.{Name}
use Rattle.octets.proofs.Places.{skipped-whole}
use Rattle.normal.specs.Texts.{is_bare_name}
use Rattle.normal.proofs.setting.is_bare_name.Goals as goal

pub returns : goal.returns
unfolding is_bare_name
returns c =
    rw (c.starts_other.ensures, c.byte_at.ensures, c.skip.ensures.0, skipped-whole Name _)
