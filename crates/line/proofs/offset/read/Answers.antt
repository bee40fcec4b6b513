-- `line::offset::read` meets its contract.
-- Assumes nothing.
use mathlib.Core.Path.{◌∙◌}
use Rattle.line.specs.Offsets.{hours_of, rest_of, is_behind}
use Rattle.line.proofs.Offsets.{offset-found, offset-none, minutes-few}
use Rattle.line.proofs.offset.read.Goals as goal

pub signed-requires : goal.signed-requires
unfolding hours_of rest_of is_behind
signed-requires c =
    minutes-few c.args.s.now
    (c.two_digits-hours.ensures.0 ∙ rw (c.byte_at-2.ensures, c.byte_at.ensures))
    (c.two_digits-rest.ensures.0 ∙ rw (c.byte_at-4.ensures, c.byte_at-3.ensures))
    (rw c.byte_at-behind.ensures)
    c.furthest.ensures.0
    c.is_formed.ensures
    c.if-is_formed-near.true
    c.furthest.ensures.1

pub returns-then-is_formed-near : goal.returns-then-is_formed-near
unfolding hours_of rest_of is_behind
returns-then-is_formed-near c =
    offset-found c.args.s.now
    (c.two_digits-hours.ensures.0 ∙ rw (c.byte_at-2.ensures, c.byte_at.ensures))
    (c.two_digits-rest.ensures.0 ∙ rw (c.byte_at-4.ensures, c.byte_at-3.ensures))
    (rw c.byte_at-behind.ensures)
    c.furthest.ensures.0
    c.is_formed.ensures
    c.if-is_formed-near.true
    c.signed.ensures

pub returns : goal.returns
unfolding hours_of rest_of is_behind
returns c =
    offset-none c.args.s.now
    (c.two_digits-hours.ensures.0 ∙ rw (c.byte_at-2.ensures, c.byte_at.ensures))
    (c.two_digits-rest.ensures.0 ∙ rw (c.byte_at-4.ensures, c.byte_at-3.ensures))
    (rw c.byte_at-behind.ensures)
    c.furthest.ensures.0
    c.is_formed.ensures
    c.if-is_formed-near.false
