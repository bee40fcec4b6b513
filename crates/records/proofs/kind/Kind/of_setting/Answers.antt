use Rattle.records.specs.Formats.{setting_kind_of}
use Rattle.records.proofs.kind.Kind.of_setting.Goals as goal

pub returns-then-is_zone : goal.returns-then-is_zone
unfolding setting_kind_of
returns-then-is_zone c = rw (← c.is_zone.ensures, c.if-is_zone.true)

pub returns : goal.returns
unfolding setting_kind_of
returns c = rw (← c.is_zone.ensures, c.if-is_zone.false)
