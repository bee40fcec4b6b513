-- `crontab::owner::owner_from` meets its contract, by the kind.
-- Assumes nothing.
use native.Mathlib.Omega.{arith}
use Rattle.crontab.specs.Owners.{owner_from}
use Rattle.line.proofs.Theorems.{owner-within}
use Rattle.crontab.proofs.owner.owner_from.Goals as goal

pub shifted-requires : goal.shifted-requires
shifted-requires c = let e = c.line_owner-owner.ensures in
    let o = owner-within c.args.l.now in
    let p = c.requires in
    (p.1, rw e (omega (arith, o.user, p.0)))

pub shifted-requires-in-System : goal.shifted-requires-in-System
shifted-requires-in-System c = let e = c.line_owner-owner.ensures in
    let o = owner-within c.args.l.now in
    let p = c.requires in
    (p.1, rw e (omega (arith, o.group, p.0)))

pub shifted-requires-in-System-2 : goal.shifted-requires-in-System-2
shifted-requires-in-System-2 c = let e = c.line_owner-owner.ensures in
    let o = owner-within c.args.l.now in
    let p = c.requires in
    (p.1, rw e (omega (arith, o.class, p.0)))

pub returns-in-User : goal.returns-in-User
unfolding owner_from
returns-in-User c = rw c.in-User.is

pub returns-in-System : goal.returns-in-System
unfolding owner_from
returns-in-System c = rw (c.in-System.is, ← c.line_owner-owner.ensures, c.shifted.ensures, c.shifted-in-System.ensures, c.shifted-in-System-2.ensures)
