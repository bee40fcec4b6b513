-- A view of the user column: its parts are in the line, and the user isn't empty. And where it starts.
-- Assumes nothing.
use Rattle.std.specs.Prelude.{Some, None, Option}
use mathlib.Core.Path.{◌≡◌, refl}
use mathlib.Core.Bool.{Bool, true, false, cond, not, ◌&&◌, and-eq-true_iff}
use mathlib.Core.List.{List}
use Prim.Native.Nat.{ℕ, zero, suc, ◌+◌, ◌-◌, ◌≤◌, ◌<◌}
use native.Mathlib.Nat.{lt_of_not-le}
use native.Mathlib.Decide.{dec_le}
use native.Mathlib.Numerals.{unary_clauses}
use native.Mathlib.Omega.{arith}
use lib.ListN.{length, get_or}
use lib.Dec.{eqb, leb, ltb}
use borrow.Author.Tests.{ltb-true}
use Rattle.octets.specs.declared.class.Class.TheVariants.{Blank, Solid, Account}
use Rattle.octets.specs.Runs.{skipped}
use Rattle.octets.proofs.Runs.{skipped-within, skipped-end}
use Rattle.line.specs.declared.Part.{Part}
use Rattle.line.specs.declared.assignment.Text.{Text}
use Rattle.line.specs.declared.user.Owner.{Owner}
use Rattle.line.specs.declared.user.Column.{Column}
use Rattle.line.specs.Limits.{max_account}
use Rattle.field.specs.Elements.{dash, slash}
use Rattle.line.specs.Users.{column_of, colon, absent, account_at, account_after, and_then, ended, column_at}
use Rattle.line.specs.Owners.{named_owner, behind, line_owner}
use Rattle.line.specs.Assignments.{found}

module _ (s : List ℕ) where
  -- a name, which isn't empty
  abbrev AccountView : Option Text → Type 0
  AccountView None = Unit {0}
  AccountView (Some w) = (w.part.start < w.part.end) × (w.part.end ≤ length s)

  -- one that may be absent
  abbrev TextWithin : Option Text → Type 0
  TextWithin None = Unit {0}
  TextWithin (Some w) = w.part.end ≤ length s

  pub record OwnerWithin (o : Owner) : Type 0 where
    pub user : o.user.end ≤ length s
    pub group : o.group.end ≤ length s
    pub class : o.class.end ≤ length s

  abbrev pub ColumnView : Option Column → Type 0
  ColumnView None = Unit {0}
  ColumnView (Some w) = (w.owner.user.start < w.owner.user.end) × OwnerWithin w.owner

  -- a run that isn't empty starts within
  run-within : (at : ℕ) → at < skipped Account s at → skipped Account s at ≤ length s
  run-within at h = elim (dec_le at (length s)) [ yes k ↦ skipped-within Account s at k | no k ↦ absurd (past (lt_of_not-le k)) ]
    where
      past : length s < at → ⊥
      past k = omega (arith, skipped-end Account s at (omega arith))

  account-view : (at : ℕ) → AccountView (account_at s at)
  unfolding account_at
  account-view at = go (ltb at end && rest) refl
    where
      end : ℕ
      end = skipped Account s at

      rest : Bool
      rest = leb (end - at) max_account && not (eqb (get_or s at 0) dash)

      go : (t : Bool) → (ltb at end && rest) ≡ t → AccountView (cond t (found (record { start = at; end = end }) end) None)
      go true e = let some = ltb-true at end ((and-eq-true_iff (ltb at end) rest).0 e).0 in (some, run-within at some)
      go false e = tt

  within : (t : Option Text) → AccountView t → TextWithin t
  within None h = tt
  within (Some w) h = h.1

  after-within : (mark at : ℕ) → TextWithin (account_after mark s at)
  unfolding account_after
  after-within mark at = go (eqb (get_or s at 0) mark)
    where
      go : (t : Bool) → TextWithin (cond t (account_at s (at + 1)) (found absent at))
      go true = within (account_at s (at + 1)) (account-view (at + 1))
      go false = omega arith

  then-view : (P : Option Text → Type 0) (t : Option Text) (later : Part → ℕ → Option Column)
      → P t → ((p : Part) (n : ℕ) → P (found p n) → ColumnView (later p n)) → ColumnView (and_then t later)
  unfolding and_then
  then-view P None later h k = tt
  then-view P (Some w) later h k = k w.part w.next h

  ended-view : (o : Owner) (next : ℕ) → (o.user.start < o.user.end) × OwnerWithin o → ColumnView (ended s o next)
  unfolding ended
  ended-view o next h = go (eqb (skipped Solid s next) next)
    where
      go : (t : Bool) → ColumnView (cond t (column_of o next) None)
      go true = h
      go false = tt

  pub column-view : (at : ℕ) → ColumnView (column_at s at)
  unfolding column_at
  column-view at =
      then-view AccountView _ _ (account-view at)
      (λ user next u. then-view TextWithin _ _ (after-within colon next)
      (λ group after g. then-view TextWithin _ _ (after-within slash after)
      (λ class end c. ended-view _ end (u.0, record { user = u.1; group = g; class = c }))))

  owner-in : (c : Option Column) → ColumnView c → OwnerWithin (named_owner c)
  unfolding named_owner
  owner-in (Some w) h = h.1
  owner-in None h = record { user = omega arith; group = omega arith; class = omega arith }

  pub owner-within : OwnerWithin (line_owner s)
  unfolding line_owner
  owner-within = owner-in (column_at s _) (column-view _)

-- behind a run and its blanks
pub behind-next : (n : ℕ) (l : List ℕ) (at : ℕ) → 0 < n → behind n l at ≡ behind (n - 1) l (skipped Blank l (skipped Solid l at))
unfolding behind
behind-next zero l at h = absurd (omega arith)
behind-next (suc n) l at h = simp unary_clauses
