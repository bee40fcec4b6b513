-- `records::record::advance` meets its contract: a record that is cut short, or the next one.
-- Assumes nothing.
use mathlib.Core.Path.{refl}
use native.Mathlib.Omega.{arith}
use lib.ListN.{drop, length-drop}
use Rattle.octets.specs.Runs.{between}
use Rattle.records.proofs.Readers.{cut-none, cut_step_lem, small_cut, past-cut, next-step}
use Rattle.records.proofs.record.advance.Goals as goal

pub returns-then-left-lt2 : goal.returns-then-left-lt2
returns-then-left-lt2 c =
    let cut = cut-none (drop c.args.at c.args.s.now) (omega (arith, length-drop c.args.at c.args.s.now, c.if-left-lt2.true)) in
    cut_step_lem _ _ _ c.requires cut c.cut.ensures.0 c.cut.ensures.1 c.cut.ensures.2

pub returns-then-length-lt2 : goal.returns-then-length-lt2
returns-then-length-lt2 c =
    let cut = small_cut _ _ c.cut-then-length-lt2.result c.requires _ c.read-length.ensures.0 c.if-length-lt2.true in
    cut_step_lem _ _ _ c.requires cut c.cut-then-length-lt2.ensures.0 c.cut-then-length-lt2.ensures.1 c.cut-then-length-lt2.ensures.2

pub returns-then-left-length : goal.returns-then-left-length
returns-then-left-length c =
    let cut = past-cut _ _ c.cut-then-left-length.result c.requires _ c.read-length.ensures.0 (omega (arith, c.if-left-length.true, c.if-left-lt2.false)) in
    cut_step_lem _ _ _ c.requires cut c.cut-then-left-length.ensures.0 c.cut-then-left-length.ensures.1 c.cut-then-left-length.ensures.2

pub returns : goal.returns
unfolding between
returns c =
    let read = c.read-length.ensures in
    next-step _ _ _ c.requires _ read.0 _ c.read-kind.ensures.0 c.if-length-lt2.false
    (omega (arith, c.if-left-length.false, c.if-left-lt2.false)) read.1 refl refl c.read.ensures
