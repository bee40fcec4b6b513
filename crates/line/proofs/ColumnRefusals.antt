-- A user column that is refused: each part that may fail, wherever the column is, and bytes after it that are no blanks. `Columns` has those that are accepted.
-- Assumes nothing.
use Rattle.std.specs.Prelude.{None}
use mathlib.Core.Path.{◌≡◌}
use mathlib.Core.List.{List}
use Prim.Native.Nat.{ℕ, ◌+◌}
use native.Mathlib.Omega.{arith}
use lib.ListN.{drop, get_or}
use borrow.Author.Tests.{le-ltb, ne_eqb, eq-eqb}
use Rattle.octets.specs.declared.class.Class.TheVariants.{Account, Solid}
use Rattle.octets.specs.Runs.{run, skipped}
use Rattle.line.specs.declared.Part.{Part}
use Rattle.line.specs.Users.{account_at, account_after, and_then, ended, column_at}
use Rattle.line.specs.Assignments.{found}

module _ (s : List ℕ) (at : ℕ) where
  pub account-none : run Account (drop at s) ≡ 0 → account_at s at ≡ None
  unfolding account_at skipped
  account-none none = let e : at + 0 ≡ at = omega arith in rw (none, e, le-ltb at at (omega arith))

  pub no-user : account_at s at ≡ None → column_at s at ≡ None
  unfolding column_at and_then
  no-user bad = rw bad

  module _ {user : Part} {p : ℕ} (first : account_at s at ≡ found user p) where
    pub no-group : get_or s p 0 ≡ 58 → account_at s (p + 1) ≡ None → column_at s at ≡ None
    unfolding column_at account_after and_then
    no-group colon bad = rw (first, eq-eqb (get_or s p 0) 58 colon, bad)

    pub no-class : (get_or s p 0 ≡ 58 → ⊥) → get_or s p 0 ≡ 47 → account_at s (p + 1) ≡ None → column_at s at ≡ None
    unfolding column_at account_after and_then
    no-class n slash bad = rw (first, ne_eqb (get_or s p 0) 58 n, eq-eqb (get_or s p 0) 47 slash, bad)

    pub more-after-user : (get_or s p 0 ≡ 58 → ⊥) → (get_or s p 0 ≡ 47 → ⊥) → (skipped Solid s p ≡ p → ⊥) → column_at s at ≡ None
    unfolding column_at account_after and_then ended
    more-after-user n m more = rw (first, ne_eqb (get_or s p 0) 58 n, ne_eqb (get_or s p 0) 47 m, ne_eqb (skipped Solid s p) p more)

    pub more-after-class : {class : Part} {r : ℕ} → (get_or s p 0 ≡ 58 → ⊥) → get_or s p 0 ≡ 47 → account_at s (p + 1) ≡ found class r → (skipped Solid s r ≡ r → ⊥)
        → column_at s at ≡ None
    unfolding column_at account_after and_then ended
    more-after-class {class} {r} n slash third more = rw (first, ne_eqb (get_or s p 0) 58 n, eq-eqb (get_or s p 0) 47 slash, third, ne_eqb (skipped Solid s r) r more)

    module _ (colon : get_or s p 0 ≡ 58) {group : Part} {q : ℕ} (second : account_at s (p + 1) ≡ found group q) where
      pub no-class-after-group : get_or s q 0 ≡ 47 → account_at s (q + 1) ≡ None → column_at s at ≡ None
      unfolding column_at account_after and_then
      no-class-after-group slash bad = rw (first, eq-eqb (get_or s p 0) 58 colon, second, eq-eqb (get_or s q 0) 47 slash, bad)

      pub more-after-group : (get_or s q 0 ≡ 47 → ⊥) → (skipped Solid s q ≡ q → ⊥) → column_at s at ≡ None
      unfolding column_at account_after and_then ended
      more-after-group m more = rw (first, eq-eqb (get_or s p 0) 58 colon, second, ne_eqb (get_or s q 0) 47 m, ne_eqb (skipped Solid s q) q more)

      pub more-after-both : {class : Part} {r : ℕ} → get_or s q 0 ≡ 47 → account_at s (q + 1) ≡ found class r → (skipped Solid s r ≡ r → ⊥) → column_at s at ≡ None
      unfolding column_at account_after and_then ended
      more-after-both {class} {r} slash third more = rw (first, eq-eqb (get_or s p 0) 58 colon, second, eq-eqb (get_or s q 0) 47 slash, third, ne_eqb (skipped Solid s r) r more)
