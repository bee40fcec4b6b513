-- `line::content` meets its contract, by the first byte that isn't blank.
-- Assumes nothing.
use borrow.Author.Tests.{le-leb, lt-leb, eq-eqb, ne_eqb}
use Rattle.line.specs.Lines.{content_of, content_from}
use Rattle.line.proofs.content.Goals as goal

-- src/line.rt:47:9
-- src/line.rt:49:9
pub returns-then-s-at : goal.returns-then-s-at
unfolding content_of
returns-then-s-at c = rw (← c.skip-at.ensures.0, le-leb _ _ c.if-s-at.true)

-- src/line.rt:51:17
-- src/line.rt:53:9
pub returns-then-first-eq35 : goal.returns-then-first-eq35
unfolding content_of content_from
returns-then-first-eq35 c = rw (← c.skip-at.ensures.0, lt-leb _ _ c.if-s-at.false, eq-eqb _ _ c.if-first-eq35.true)

-- src/line.rt:55:8
-- src/line.rt:56:9
-- src/line.rt:56:9
pub returns-then-starts_entry : goal.returns-then-starts_entry
unfolding content_of content_from
returns-then-starts_entry c =
    rw (← c.skip-at.ensures.0, lt-leb _ _ c.if-s-at.false, ne_eqb _ _ c.if-first-eq35.false, ← c.starts_entry.ensures, c.if-starts_entry.true) c.read.ensures

-- src/line.rt:58:5
-- src/line.rt:43:1
pub returns : goal.returns
unfolding content_of content_from
returns c =
    rw (← c.skip-at.ensures.0, lt-leb _ _ c.if-s-at.false, ne_eqb _ _ c.if-first-eq35.false, ← c.starts_entry.ensures, c.if-starts_entry.false) c.read-2.ensures
