use Rattle.std.specs.Prelude.{Ok}
use mathlib.Core.Path.{◌≡◌, ap}
use Prim.Native.Nat.{◌+◌}
use native.Mathlib.Omega.{arith}
use lib.ListN.{length}
use Rattle.firings.specs.Lists.{firings_of}
use Rattle.firings.specs.Calls.{listed_entry}
use Rattle.octets.proofs.Passing.{up-end, up-here}
use Rattle.firings.proofs.Filling.{filling-start, filling-ahead, filling-next, all_told, all_laid, more-told, more-laid}
use Rattle.firings.proofs.NextFirings.{first-from}
use Rattle.firings.proofs.entry.fill.Goals as goal

pub firing_after-minute-requires : goal.firing_after-minute-requires
firing_after-minute-requires c = (c.requires.0, c.requires.1)

pub loop-minute-init : goal.loop-minute-init
unfolding firings_of
loop-minute-init c =
    let f = first-from c.args.entry (c.args.a + 1) _ (omega (arith, c.requires.1)) c.firing_after-minute.ensures in
    (filling-ahead (filling-start _ _ _ (omega arith)) (f.skip _), f.high, f.fires)

pub shape_of-run-then-n-run : goal.shape_of-run-then-n-run
shape_of-run-then-n-run c = c.loop-minute.invariant.0.size

-- the minute is a firing, and it lies ahead
pub returns-then-n-run : goal.returns-then-n-run
unfolding listed_entry
returns-then-n-run c =
    let l = c.loop-minute in
    let f = filling-ahead l.invariant.0 (up-here _ _ _ (omega arith) (l.invariant.2 (omega (arith, c.requires.2)))) in
    let full : l.n ≡ length c.args.run.now = omega (arith, l.invariant.0.size) in
    record { answer = ap Ok (more-told f full); run = more-laid f full }

pub overflow_cast-run : goal.overflow_cast-run
overflow_cast-run c = omega (arith, c.requires.2)

pub bounds-run-n : goal.bounds-run-n
bounds-run-n c = omega (arith, c.loop-minute.invariant.0.fits, c.loop-minute.invariant.0.size)

pub following-minute-requires : goal.following-minute-requires
following-minute-requires c =
    let l = c.loop-minute in
    (c.requires.0, omega (arith, c.requires.2), l.invariant.2 (omega (arith, c.requires.2)))

pub loop-minute-smaller : goal.loop-minute-smaller
loop-minute-smaller c =
    let l = c.loop-minute in
    let f = first-from c.args.entry (l.minute + 1) _ (omega (arith, c.requires.2)) c.following-minute.ensures in
    omega (arith, f.low, c.requires.2)

pub loop-minute-preserved : goal.loop-minute-preserved
loop-minute-preserved c =
    let l = c.loop-minute in
    let f = first-from c.args.entry (l.minute + 1) _ (omega (arith, c.requires.2)) c.following-minute.ensures in
    let here = filling-ahead l.invariant.0 (up-here _ _ _ (omega arith) (l.invariant.2 (omega (arith, c.requires.2)))) in
    (filling-ahead (filling-next here (omega (arith, l.invariant.0.fits, l.invariant.0.size))) (f.skip _), f.high, f.fires)

pub shape_of-run : goal.shape_of-run
shape_of-run c = c.loop-minute.invariant.0.size

pub returns : goal.returns
unfolding listed_entry
returns c =
    let f = filling-ahead c.loop-minute.invariant.0 (up-end _ _ _ (omega arith)) in
    record { answer = ap Ok (all_told f); run = all_laid f }
