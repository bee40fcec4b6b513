-- The user column of a system table's entry, wherever it is in its line: "user, then an optional `:group`, then an optional `/class`", each of 1 to 32 bytes, and what an
-- entry is by it. Of any bytes.
-- Assumes nothing.
use Rattle.std.specs.Prelude.{None, Ok, Err}
use Rattle.refusal.specs.declared.Refusal.TheVariants.{NoCommand, BadUser}
use mathlib.Core.Path.{◌≡◌, refl, ◌∙◌}
use mathlib.Core.Bool.{true, not, cond}
use mathlib.Core.List.{List, ◌∷◌}
use Prim.Native.Nat.{ℕ, ◌+◌, ◌-◌, ◌≤◌, ◌<◌}
use native.Mathlib.Omega.{arith}
use lib.ListN.{length, get_or}
use lib.Dec.{eqb}
use borrow.Author.Tests.{lt-ltb, le-ltb, le-leb, lt-leb, ne_eqb, eq-eqb}
use Rattle.octets.specs.declared.class.Class.TheVariants.{Account, Solid, Blank}
use Rattle.octets.specs.Runs.{run, are_of, skipped}
use Rattle.octets.proofs.Places.{Stands, skipped-here, byte-here}
use Rattle.line.specs.declared.Rules.{Rules}
use Rattle.line.specs.declared.Part.{Part}
use Rattle.line.specs.declared.Kind.TheVariants.{System}
use Rattle.line.specs.declared.Line.TheVariants as line
use Rattle.line.specs.declared.time.When.{When}
use Rattle.line.specs.declared.user.Owner.{Owner}
use Rattle.line.specs.Users.{column_of, account_at, absent, account_after, and_then, ended, column_at}
use Rattle.line.specs.Entries.{time_at, with_command, after_owner, with_user, after_time, entry_at}
use Rattle.line.specs.Assignments.{found}
use Rattle.line.specs.Times.{time_of}

-- ---- one part

module _ {s : List ℕ} {at x : ℕ} {n r : List ℕ} (here : Stands s at (x ∷ n) r) (are : are_of Account (x ∷ n) ≡ true) (ends : run Account r ≡ 0) where
  account-by-dash : length (x ∷ n) ≤ 32
      → account_at s at ≡ cond (not (eqb x 45)) (found (record { start = at; end = at + length (x ∷ n) }) (at + length (x ∷ n))) None
  unfolding account_at
  account-by-dash few =
      rw (skipped-here here Account are ends, byte-here here, lt-ltb at (at + length (x ∷ n)) (omega arith), le-leb (at + length (x ∷ n) - at) 32 (omega arith))

  pub account-there : length (x ∷ n) ≤ 32 → (x ≡ 45 → ⊥) → account_at s at ≡ found (record { start = at; end = at + length (x ∷ n) }) (at + length (x ∷ n))
  account-there few other = account-by-dash few ∙ rw (ne_eqb x 45 other)

  pub account-too-long : 32 < length (x ∷ n) → account_at s at ≡ None
  unfolding account_at
  account-too-long many =
      rw (skipped-here here Account are ends, lt-ltb at (at + length (x ∷ n)) (omega arith), lt-leb (at + length (x ∷ n) - at) 32 (omega arith))

  pub account-dash : length (x ∷ n) ≤ 32 → x ≡ 45 → account_at s at ≡ None
  account-dash few dash = account-by-dash few ∙ rw (eq-eqb x 45 dash)

-- ---- the three, up to the next blank

module _ (s : List ℕ) (at : ℕ) {user : Part} {p : ℕ} (first : account_at s at ≡ found user p) where
  -- neither group nor class
  pub user-alone : (get_or s p 0 ≡ 58 → ⊥) → (get_or s p 0 ≡ 47 → ⊥) → skipped Solid s p ≡ p
      → column_at s at ≡ column_of (record { user = user; group = absent; class = absent }) p
  unfolding column_at account_after and_then ended
  user-alone n m end = rw (first, ne_eqb (get_or s p 0) 58 n, ne_eqb (get_or s p 0) 47 m, end, eq-eqb p p refl)

  pub with-class : {class : Part} {r : ℕ} → (get_or s p 0 ≡ 58 → ⊥) → get_or s p 0 ≡ 47 → account_at s (p + 1) ≡ found class r → skipped Solid s r ≡ r
      → column_at s at ≡ column_of (record { user = user; group = absent; class = class }) r
  unfolding column_at account_after and_then ended
  with-class {class} {r} n slash third end = rw (first, ne_eqb (get_or s p 0) 58 n, eq-eqb (get_or s p 0) 47 slash, third, end, eq-eqb r r refl)

  module _ (colon : get_or s p 0 ≡ 58) {group : Part} {q : ℕ} (second : account_at s (p + 1) ≡ found group q) where
    pub with-group : (get_or s q 0 ≡ 47 → ⊥) → skipped Solid s q ≡ q
        → column_at s at ≡ column_of (record { user = user; group = group; class = absent }) q
    unfolding column_at account_after and_then ended
    with-group m end = rw (first, eq-eqb (get_or s p 0) 58 colon, second, ne_eqb (get_or s q 0) 47 m, end, eq-eqb q q refl)

    pub with-both : {class : Part} {r : ℕ} → get_or s q 0 ≡ 47 → account_at s (q + 1) ≡ found class r → skipped Solid s r ≡ r
        → column_at s at ≡ column_of (record { user = user; group = group; class = class }) r
    unfolding column_at account_after and_then ended
    with-both {class} {r} slash third end = rw (first, eq-eqb (get_or s p 0) 58 colon, second, eq-eqb (get_or s q 0) 47 slash, third, end, eq-eqb r r refl)

-- ---- an entry of a system table: 20 at the column's first byte, then 9

module _ (rules : Rules) (s : List ℕ) (at : ℕ) (system : rules.kind ≡ System) {when : When} {next : ℕ}
    (is : time_at rules.dialect s at ≡ time_of when next) (some : next < length s) where
  pub system-bad-user : column_at s next ≡ None → entry_at rules s at ≡ Err (record { refusal = BadUser; column = next + 1 })
  unfolding entry_at after_time with_user after_owner
  system-bad-user bad = rw (is, system, lt-ltb next (length s) some, bad)

  module _ {owner : Owner} {end : ℕ} (named : column_at s next ≡ column_of owner end) where
    pub system-entry : skipped Blank s end < length s → entry_at rules s at ≡ Ok (line.Entry when (skipped Blank s end))
    unfolding entry_at after_time with_user after_owner with_command
    system-entry more = rw (is, system, lt-ltb next (length s) some, named, lt-ltb (skipped Blank s end) (length s) more)

    pub system-no-command : length s ≤ skipped Blank s end → entry_at rules s at ≡ Err (record { refusal = NoCommand; column = length s + 1 })
    unfolding entry_at after_time with_user after_owner with_command
    system-no-command none = rw (is, system, lt-ltb next (length s) some, named, le-ltb (skipped Blank s end) (length s) none)
