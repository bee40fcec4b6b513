-- `normal::setting::is_bare_value` meets its contract: it tests what the definition does.
-- Assumes nothing.
use mathlib.Core.Path.{◌≡◌}
use native.Mathlib.Omega.{arith}
use Rattle.octets.specs.Classes.{of_class}
use Rattle.octets.specs.Runs.{trimmed}
use Rattle.normal.specs.Texts.{is_bare_value}
use Rattle.normal.proofs.setting.is_bare_value.Goals as goal

pub returns : goal.returns
unfolding is_bare_value of_class
returns c =
    let end : c.trimmed_end.result ≡ trimmed c.args.value.now = omega (arith, c.trimmed_end.ensures) in
    rw (end, c.is_quote.ensures, c.is_in.ensures, c.byte_at-first.ensures)
