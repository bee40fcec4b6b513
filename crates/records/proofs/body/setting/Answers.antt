-- `records::body::setting` meets its contract, test by test.
-- Assumes nothing.
use mathlib.Core.Path.{sym, ◌∙◌}
use mathlib.Core.Bool.{true, false}
use native.Mathlib.Omega.{arith}
use Rattle.records.specs.Readings.{number_at}
use Rattle.records.specs.InnerReaders.{found}
use Rattle.records.proofs.Readers.{between-rest, setting-short, setting-past, setting-meant}
use Rattle.records.proofs.body.setting.Goals as goal

pub returns-then-is_setting : goal.returns-then-is_setting
unfolding found number_at
returns-then-is_setting c =
    let read = c.read.ensures.0 in
    let a = c.args in
    let fit = rw read at c.if-value-body.true in
    let test = rw (c.part.ensures.0, c.part-then-value-body.ensures.0, between-rest, read) at (sym c.is_setting.ensures ∙ c.if-is_setting.true) in
    (rw read (setting-meant a.body.now a.kind fit true test), (omega arith, c.if-value-body.true))

pub returns-else-is_setting : goal.returns-else-is_setting
unfolding found number_at
returns-else-is_setting c =
    let read = c.read.ensures.0 in
    let a = c.args in
    let fit = rw read at c.if-value-body.true in
    let test = rw (c.part.ensures.0, c.part-then-value-body.ensures.0, between-rest, read) at (sym c.is_setting.ensures ∙ c.if-is_setting.false) in
    (setting-meant a.body.now a.kind fit false test, tt)

pub returns-else-value-body : goal.returns-else-value-body
unfolding found number_at
returns-else-value-body c = (setting-past _ _ (rw c.read.ensures.0 at c.if-value-body.false), tt)

pub returns-else-body-ge2 : goal.returns-else-body-ge2
unfolding found
returns-else-body-ge2 c = (setting-short _ _ c.if-body-ge2.false, tt)
