use mathlib.Core.Path.{ap, ◌∙◌}
use Prim.Native.Nat.{ℕ, ◌+◌, ◌*◌}
use native.Mathlib.Omega.{arith}
use Rattle.firings.proofs.NextFirings.{first-from}
use Rattle.firings.proofs.Waiting.{waits-after, planted-start, planted-more, planted-all}
use Rattle.firings.proofs.tree.build.Goals as goal

pub loop-i-init : goal.loop-i-init
loop-i-init c = planted-start _ _

pub offset_bounds-table-i : goal.offset_bounds-table-i
offset_bounds-table-i c = omega (arith, c.requires.0.few)

pub bounds-table-i : goal.bounds-table-i
bounds-table-i c = omega (arith, c.requires.0.few)

pub firing_after-requires : goal.firing_after-requires
firing_after-requires c =
    (c.requires.0.zone _ c.loop-i-test.true, c.requires.1)

pub key-requires : goal.key-requires
key-requires c =
    ((first-from _ (c.args.minute + 1) _ (omega (arith, c.requires.1)) c.firing_after.ensures).high, omega (arith, c.requires.0.few))

pub put-requires : goal.put-requires
put-requires c =
    (c.loop-i.invariant.shape, omega (arith, c.requires.0.few))

pub loop-i-preserved : goal.loop-i-preserved
loop-i-preserved c =
    let l = c.loop-i in
    let here = c.loop-i-test.true in
    let few = c.requires.0.few in
    let wait =
    waits-after c.args.table.entries c.args.table.count l.i c.args.minute ((c.args.minute + 1) * 512) _ here few c.requires.1
    (omega arith) (omega arith)
    (c.key.ensures ∙ ap (λ (n : ℕ). n * 512 + l.i) c.firing_after.ensures)
    in
    planted-more _ l.tree c.put.ensures.shape l.i _ c.put.ensures.leaves (omega arith) l.invariant wait

pub returns : goal.returns
returns c = planted-all _ (omega (arith, c.loop-i.auto.i-end)) c.loop-i.invariant
