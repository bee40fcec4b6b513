-- `crontab_firings::lines::line` meets its contract: four texts, one behind the other.
-- Assumes nothing.
use Rattle.octets.proofs.Written.{wrote-next}
use Rattle.crontab_firings.proofs.Texts.{length-line}
use Rattle.crontab_firings.specs.Lines.{space, newline}
use mathlib.Core.List.{[], ◌∷◌, ◌++◌}
use mathlib.Core.Path.{refl}
use native.Mathlib.Omega.{arith}
use Rattle.crontab_firings.proofs.lines.line.Goals as goal

pub returns : goal.returns
returns c =
    let (m, mp, ml, mw) = c.decimal-space.ensures in
    let (e, ep, el, ew) = c.decimal-end.ensures in (
      m ++ space ∷ [] ++ e ++ newline ∷ [],
      record { first = m; second = e; minute-is = mp; entry-is = ep; is = refl },
      omega (arith, length-line m e, ml, el),
      wrote-next (wrote-next (wrote-next mw c.byte-next.ensures) ew) c.byte.ensures,
    )
