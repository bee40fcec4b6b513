-- Laws of offsets: one that is read may be, and what the machine reads is what the definition says.
-- Assumes nothing.
use Rattle.std.specs.Prelude.{Some, None, Option}
use mathlib.Core.Path.{◌≡◌, refl, sym, ap, subst, ◌∙◌}
use mathlib.Core.Bool.{Bool, true, false, cond, ◌&&◌, and-eq-true_iff}
use mathlib.Core.List.{List}
use Prim.Native.Nat.{ℕ, zero, suc, ◌+◌, ◌-◌, ◌*◌, ◌≤◌}
use native.Mathlib.Omega.{arith}
use lib.Dec.{leb}
use lib.IntN.{ℤ, pos, neg_ℤ, ◌-ℤ◌}
use Rattle.std.specs.Option.{unwrap_or}
use mir.Syntax.{w32}
use mir.Val.{SFits, to_z, of_z}
use mir.Facts.{to_z-of_z, to_z_pos}
use borrow.Author.Tests.{leb-true, lt-ltb}
use Rattle.schedule.proofs.Theorems.{zone-fits}
use Rattle.schedule.specs.Local.{OffsetInRange}
use Rattle.line.specs.Offsets.{is_formed, hours_of, rest_of, minutes_of, is_behind, furthest, is_offset, signed, offset_of, read_offset, Zoned, in_force}

-- ---- from -12:00 to +14:00

signed-in : (behind : Bool) (n : ℕ) → n ≤ furthest behind → OffsetInRange (signed behind n)
unfolding furthest signed
signed-in true zero h = omega arith
signed-in true (suc n) h = omega arith
signed-in false n h = h

pub zone-in : (s : List ℕ) → is_offset s ≡ true → OffsetInRange (offset_of s)
unfolding is_offset offset_of
zone-in s h =
    let a = (and-eq-true_iff (is_formed s) _).0 h in
    let b = (and-eq-true_iff (leb (rest_of s) 59) (leb (minutes_of s) (furthest (is_behind s)))).0 a.1 in
    signed-in (is_behind s) (minutes_of s) (leb-true (minutes_of s) (furthest (is_behind s)) b.1)

pub force-in : (z : Option ℤ) (o : ℤ) → Zoned z → OffsetInRange o → OffsetInRange (in_force z o)
unfolding in_force
force-in None o h k = k
force-in (Some minutes) o h k = h

abbrev AnswerIn : Option ℤ → Type 0
AnswerIn (Some z) = OffsetInRange z
AnswerIn None = Unit {0}

answer-in : (s : List ℕ) → AnswerIn (read_offset s)
unfolding read_offset
answer-in s = go (is_offset s) refl
  where
    go : (t : Bool) → is_offset s ≡ t → AnswerIn (cond t (Some (offset_of s)) None)
    go true e = zone-in s e
    go false e = tt

pub minutes-in : (s : List ℕ) {z : ℤ} → read_offset s ≡ Some z → OffsetInRange z
minutes-in s e = rw e at (answer-in s)

-- ---- in 32 bits

-- what is written is read back
pub kept : {z : ℤ} → OffsetInRange z → to_z w32 (of_z w32 z) ≡ z
kept {z} h = to_z-of_z {w = w32} (zone-fits z h)

-- what a setting says, or else what was in force, as the code has it
pub unwrapped : (zone : Option ℤ) {before r : ℤ} → Zoned zone → SFits w32 before → r ≡ unwrap_or zone (to_z w32 (of_z w32 before))
    → to_z w32 (of_z w32 r) ≡ in_force zone before
unfolding in_force
unwrapped None {before} z f e = rw (e, to_z-of_z {w = w32} f) (to_z-of_z {w = w32} f)
unwrapped (Some minutes) z f e = rw e (kept z)

pub kept_in : (z : ℤ) → OffsetInRange z → OffsetInRange (to_z w32 (of_z w32 z))
kept_in z h = subst OffsetInRange (sym (kept {z = z} h)) h

pub same_bits : {y z : ℤ} → OffsetInRange y → OffsetInRange z → of_z w32 y ≡ of_z w32 z → y ≡ z
same_bits h k e = sym (kept h) ∙ ap (to_z w32) e ∙ kept k

-- the same of the offset behind a setting, where the one before it was read back
pub forced : (zone : Option ℤ) {before read r : ℤ} → Zoned zone → OffsetInRange before → read ≡ before → r ≡ in_force zone read
    → to_z w32 (of_z w32 r) ≡ in_force zone before
forced zone {before} z b same e =
    let f = e ∙ ap (in_force zone) same in
    kept (subst OffsetInRange (sym f) (force-in zone before z b)) ∙ f

module _ {n : ℕ} (h : n ≤ 840) where
  pub biased-offset-read : to_z w32 n ≡ pos n
  biased-offset-read = to_z_pos w32 {n = n} (omega arith)

  behind-is : (m : ℕ) → pos 0 -ℤ pos m ≡ neg_ℤ (pos m)
  behind-is zero = refl
  behind-is (suc m) = let e : suc m - 1 ≡ m = omega arith in rw (lt-ltb 0 (suc m) (omega arith), e)

  behind-fits : (m : ℕ) → m ≤ 840 → SFits w32 (neg_ℤ (pos m))
  behind-fits zero k = record { sfits = omega arith }
  behind-fits (suc m) k = record { sfits = omega arith }

  negated : pos 0 -ℤ to_z w32 n ≡ neg_ℤ (pos n)
  negated = ap (λ (y : ℤ). pos 0 -ℤ y) biased-offset-read ∙ behind-is n

  pub negated_fits : SFits w32 (pos 0 -ℤ to_z w32 n)
  negated_fits = subst (SFits w32) (sym negated) (behind-fits n h)

  pub negated-read : to_z w32 (of_z w32 (pos 0 -ℤ to_z w32 n)) ≡ neg_ℤ (pos n)
  negated-read = to_z-of_z {w = w32} negated_fits ∙ negated

-- ---- as it is read

module _ (s : List ℕ) {hours rest far : ℕ} {behind formed : Bool} (h : hours ≡ hours_of s) (r : rest ≡ rest_of s) (b : behind ≡ is_behind s)
    (f : far ≡ furthest behind) (q : formed ≡ is_formed s) where
  abbrev test : Bool
  test = formed && (leb rest 59 && leb (hours * 60 + rest) far)

  same_test : is_offset s ≡ test
  unfolding is_offset minutes_of
  same_test = rw (f, b, h, r, q)

  found-is : test ≡ true → signed behind (hours * 60 + rest) ≡ offset_of s
  unfolding offset_of minutes_of
  found-is t = rw (b, h, r)

  pub offset-found : test ≡ true → {z : ℤ} → z ≡ signed behind (hours * 60 + rest) → Some (to_z w32 (of_z w32 z)) ≡ read_offset s
  unfolding read_offset
  offset-found t e =
      let z = e ∙ found-is t in
      rw (same_test, t) (ap Some (kept (subst OffsetInRange (sym z) (zone-in s (same_test ∙ t))) ∙ z))

  pub offset-none : test ≡ false → None ≡ read_offset s
  unfolding read_offset
  offset-none t = rw (same_test, t)

  pub minutes-few : test ≡ true → far ≤ 840 → hours * 60 + rest ≤ 840
  minutes-few t k =
      let c = (and-eq-true_iff formed _).0 t in
      let d = (and-eq-true_iff (leb rest 59) (leb (hours * 60 + rest) far)).0 c.1 in
      let e = leb-true (hours * 60 + rest) far d.1 in
      omega arith
