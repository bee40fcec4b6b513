use mathlib.Core.Path.{◌≡◌, refl, sym, ap, ◌∙◌}
use mathlib.Core.Bool.{cond}
use mathlib.Core.List.{List}
use Prim.Native.Nat.{ℕ, ◌+◌, ◌*◌, ◌/◌, ◌%◌, ◌≤◌, ◌<◌, min}
use native.Mathlib.Omega.{arith}
use lib.ListN.{length, get_or}
use lib.Dec.{eqb}
use Rattle.octets.specs.Search.{from}
use Rattle.calendar.specs.Dates.{last_minute}
use Rattle.crontab.specs.declared.entry.Entry.{Entry}
use Rattle.crontab.specs.Tables.{blank_entry}
use Rattle.crontab.specs.Firings.{fires_at}
use Rattle.firings.specs.Lists.{fires_in}
use Rattle.firings.specs.Calls.{room_in}
use Rattle.firings.specs.Keys.{is_firing, Tree, leaf, root, Tournament, Good}
use Rattle.octets.proofs.Passing.{up-end, up-here}
use Rattle.firings.proofs.NextFirings.{first-from}
use Rattle.firings.proofs.Waiting.{firing-is, firing-entry, waits-after, planted-next, planted-root, root-at, root-skip, root-fires}
use Rattle.firings.proofs.Keys.{merged-keys}
use Rattle.firings.proofs.Merging.{merging_start, merging-ahead, merging-next, merging-all, merging-more}
use Rattle.firings.proofs.merge.fill.Goals as goal

room-is : (minutes numbers : List ℕ) (shorter room : ℕ) → shorter ≡ min (length minutes) (length numbers) → room ≡ min shorter 4294967295 → room ≡ room_in minutes numbers
unfolding room_in
room-is minutes numbers shorter room p q = rw p at q

-- when the root's entry has its next firing, all wait from behind the root on
moved_on : {entries : List Entry} {count b key : ℕ} {tree now : List ℕ} → Good entries count → b ≤ last_minute → root tree / 512 ≤ b
    → Tournament (is_firing (fires_in entries) count) count (root tree) tree
    → key ≡ from (fires_at (get_or entries (root tree % 512) blank_entry)) (last_minute + 1) (root tree / 512 + 1) * 512 + root tree % 512
    → Tree now → ((j : ℕ) → j < 512 → leaf now j ≡ cond (eqb j (root tree % 512)) key (leaf tree j))
    → Tournament (is_firing (fires_in entries) count) count (root tree + 1) now
moved_on {entries} {count} {b} {key} {tree} good on low p e shape put =
    let i = firing-entry (fires_in entries) count (root tree) (root-fires _ _ _ _ p (omega arith)) in
    let few = good.few in
    planted-next _ tree shape (root tree % 512) key put few i p refl
    (waits-after entries count (root tree % 512) (root tree / 512) (root tree + 1) key i few (omega arith) (omega arith) (omega arith) e)

pub build-tree-requires : goal.build-tree-requires
build-tree-requires c = (c.requires.0, c.requires.1)

pub loop-tree-init : goal.loop-tree-init
loop-tree-init c =
    let p = c.build-tree.ensures in
    let on : c.args.a + 1 ≤ last_minute + 1 = omega (arith, c.requires.1) in
    let low = root-at _ _ _ _ p (omega arith) in
    (merging-ahead (merging_start _ _ _ _ (room-is _ _ _ _ c.min.ensures c.min-room.ensures)) (root-skip _ _ _ _ p low _), planted-root _ _ _ _ p low c.requires.0.few)

pub shape_of-minutes-then-n-room : goal.shape_of-minutes-then-n-room
shape_of-minutes-then-n-room c = c.loop-tree.invariant.0.first.size

pub shape_of-numbers-then-n-room : goal.shape_of-numbers-then-n-room
shape_of-numbers-then-n-room c = c.loop-tree.invariant.0.second.size

pub returns-then-n-room : goal.returns-then-n-room
returns-then-n-room c =
    let l = c.loop-tree in
    let low : root l.tree / 512 ≤ c.args.b = c.loop-tree-test.true in
    let fires = root-fires _ _ _ _ l.invariant.1 (omega (arith, c.requires.2)) in
    let r = merging-more (merging-ahead l.invariant.0 (up-here _ _ _ (omega arith) fires)) c.if-n-room.true (merged-keys _ _ c.requires.0.few _ _)
    (room-is _ _ _ _ c.min.ensures c.min-room.ensures) in
    record { answer = r.0; minutes = r.1.0; entries = r.1.1 }

pub overflow_cast-minutes : goal.overflow_cast-minutes
overflow_cast-minutes c = omega (arith, c.requires.2)

pub bounds-minutes-n : goal.bounds-minutes-n
bounds-minutes-n c =
    let f = c.loop-tree.invariant.0.first in
    omega (arith, f.fits, f.within, f.size)

pub bounds-numbers-n : goal.bounds-numbers-n
bounds-numbers-n c =
    let f = c.loop-tree.invariant.0.second in
    omega (arith, f.fits, f.within, f.size)

pub following-requires : goal.following-requires
unfolding fires_in
following-requires c =
    let l = c.loop-tree in
    let low : root l.tree / 512 ≤ c.args.b = c.loop-tree-test.true in
    let fires = root-fires _ _ _ _ l.invariant.1 (omega (arith, c.requires.2)) in
    let i = firing-entry _ _ _ fires in
    (c.requires.0.zone _ i, omega (arith, c.requires.2), sym (firing-is _ _ _ _ refl i) ∙ fires)

pub key-requires : goal.key-requires
key-requires c =
    let l = c.loop-tree in
    let low : root l.tree / 512 ≤ c.args.b = c.loop-tree-test.true in
    ((first-from _ (root l.tree / 512 + 1) _ (omega (arith, c.requires.2)) c.following.ensures).high, omega arith)

pub put-requires : goal.put-requires
put-requires c = (c.loop-tree.invariant.1.shape, omega arith)

pub loop-tree-smaller : goal.loop-tree-smaller
loop-tree-smaller c =
    let l = c.loop-tree in
    let low : root l.tree / 512 ≤ c.args.b = c.loop-tree-test.true in
    let key = c.key.ensures ∙ ap (λ (n : ℕ). n * 512 + root l.tree % 512) c.following.ensures in
    let now = moved_on c.requires.0 c.requires.2 low l.invariant.1 key c.put.ensures.shape c.put.ensures.leaves in
    let up = root-at _ _ _ _ now (omega (arith, c.requires.2)) in
    omega (arith, c.requires.2)

pub loop-tree-preserved : goal.loop-tree-preserved
loop-tree-preserved c =
    let l = c.loop-tree in
    let low : root l.tree / 512 ≤ c.args.b = c.loop-tree-test.true in
    let fires = root-fires _ _ _ _ l.invariant.1 (omega (arith, c.requires.2)) in
    let key = c.key.ensures ∙ ap (λ (n : ℕ). n * 512 + root l.tree % 512) c.following.ensures in
    let now = moved_on c.requires.0 c.requires.2 low l.invariant.1 key c.put.ensures.shape c.put.ensures.leaves in
    let up = root-at _ _ _ _ now (omega (arith, c.requires.2)) in
    let here = merging-ahead l.invariant.0 (up-here _ _ _ (omega arith) fires) in
    (merging-ahead (merging-next here (omega (arith, l.invariant.0.first.fits))) (root-skip _ _ _ _ now up _), planted-root _ _ _ _ now up c.requires.0.few)

pub shape_of-minutes : goal.shape_of-minutes
shape_of-minutes c = c.loop-tree.invariant.0.first.size

pub shape_of-numbers : goal.shape_of-numbers
shape_of-numbers c = c.loop-tree.invariant.0.second.size

pub returns : goal.returns
returns c =
    let l = c.loop-tree in
    let high : c.args.b < root l.tree / 512 = c.loop-tree-test.false in
    let r = merging-all (merging-ahead l.invariant.0 (up-end _ _ _ (omega arith))) (merged-keys _ _ c.requires.0.few _ _)
    (room-is _ _ _ _ c.min.ensures c.min-room.ensures) in
    record { answer = r.0; minutes = r.1.0; entries = r.1.1 }
