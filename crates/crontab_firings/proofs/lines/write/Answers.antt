use mathlib.Core.Path.{◌≡◌, sym}
use Prim.Native.Nat.{◌*◌, ◌≤◌, ◌/◌, min}
use native.Mathlib.Omega.{arith}
use lib.ListN.{length}
use lib.Seq.{length-take-le}
use Rattle.crontab_firings.proofs.Texts.{written_start, written-more, written-within, written-text, written-rest}
use Rattle.crontab_firings.proofs.lines.write.Goals as goal

pub loop-i-init : goal.loop-i-init
loop-i-init c = (written_start _ _ _ (omega arith), omega arith)

pub loop-i-preserved : goal.loop-i-preserved
loop-i-preserved c = (written-more _ _ _ c.loop-i.invariant.0 c.line-at.ensures, omega arith)

pub returns : goal.returns
returns c =
    let a = c.args in
    let l = c.loop-i in
    let w = l.invariant.0 in
    let most : c.min-most.result ≡ min (min a.n (length a.text.now / 42)) (min (length a.minutes.now) (length a.entries.now)) =
    rw (← c.min.ensures, ← c.min-2.ensures) c.min-most.ensures in
    let all : l.i ≡ c.min-most.result = omega (arith, l.invariant.1) in
    let room : l.i * 42 ≤ length a.text.now = omega (arith, all, most) in
    let h = written-within _ _ _ w room in
    record {
      counts = (h, sym (length-take-le _ _ h));
      lines = rw (← most, ← all) (written-text _ _ _ w room);
      rest = (written-rest _ _ _ w room, w.wrote.size);
    }
