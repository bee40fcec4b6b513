-- `line::assignment::value_at` meets its contract: a quoted value and a bare one.
-- Assumes nothing.
use mathlib.Core.Path.{sym, ◌∙◌}
use Rattle.octets.proofs.Runs.{quote-within}
use Rattle.line.proofs.assignment.value_at.Goals as goal

pub quoted-requires : goal.quoted-requires
quoted-requires c =
    let a = c.args in
    quote-within a.s.now a.at (rw (← c.byte_at.ensures) (sym c.is_quote.ensures ∙ c.if-is_quote.true))
