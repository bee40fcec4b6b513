-- `crontab_firings::lines::decimal` meets its contract: the digits are those that `io` makes.
-- Assumes nothing.
use Rattle.crontab_firings.proofs.Texts.{length_digits, few-digits}
use Rattle.io.specs.Digits.{last_digits}
use mathlib.Core.Path.{refl}
use native.Mathlib.Omega.{arith}
use Rattle.crontab_firings.proofs.lines.decimal.Goals as goal

pub returns : goal.returns
returns c =
    let d = c.decimal-k in
    let n = c.args.n in
    let few = length_digits 10 d.result n in (
      last_digits 10 d.result n,
      record { size = d.result; fewest = d.ensures.len; is = refl },
      omega (arith, few-digits n d.result (omega arith) d.ensures.len, few),
      rw d.ensures.digits at c.copy.ensures,
    )
