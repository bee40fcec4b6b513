-- `octets::write::number` meets its contract: a digit, or two of them one after the other, or none where there is no room.
-- Assumes nothing.
use native.Mathlib.Omega.{arith}
use Rattle.octets.proofs.Digits.{one-digit, two_digits}
use Rattle.octets.proofs.Written.{wrote-next, wrote-past}
use Rattle.octets.proofs.write.number.Goals as goal

pub returns-then-n-lt10 : goal.returns-then-n-lt10
returns-then-n-lt10 c = rw (one-digit _ c.if-n-lt10.true) c.byte.ensures

pub returns-then-out-at : goal.returns-then-out-at
returns-then-out-at c =
    let a = c.args in
    rw (two_digits _ c.if-n-lt10.false) (wrote-past a.at _ _ a.out.now (omega arith) (omega arith) c.after.ensures)

pub returns : goal.returns
returns c =
    rw (two_digits _ c.if-n-lt10.false) (wrote-next c.byte-next.ensures c.byte-2.ensures)
