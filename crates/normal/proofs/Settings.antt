-- Settings that are read: name and value are proper ones, whatever the line's length.
-- Assumes nothing.
use mathlib.Core.Path.{◌≡◌, refl, sym, ◌∙◌}
use mathlib.Core.Bool.{Bool, true, false, ◌||◌, true≢false, or-true}
use mathlib.Core.List.{List, [], ◌∷◌}
use mathlib.Core.Logic.{◌⊎◌, inl, inr}
use Prim.Native.Nat.{ℕ, zero, suc, ◌+◌, ◌-◌, ◌≤◌, ◌<◌}
use native.Mathlib.Omega.{arith}
use lib.ListN.{length, take, drop, get_or}
use lib.Seq.{length-take-le, get_or-drop}
use lib.Dec.{eqb}
use borrow.Author.Tests.{le-leb, eq-eqb, eqb-true}
use Rattle.octets.specs.declared.class.Class.TheVariants.{Name, Not, InLine}
use Rattle.octets.specs.Classes.{is_blank, is_quote}
use Rattle.octets.specs.Runs.{are_of, skipped, trimmed, between}
use Rattle.octets.proofs.Runs.{trimmed-le, trimmed-again}
use Rattle.octets.proofs.Places.{are-between, skipped-are, skipped-size, between_first}
use Rattle.line.specs.declared.Part.{Part}
use Rattle.line.proofs.Theorems.{Quoted, NamePart, ValuePart}
use Rattle.line.specs.Assignments.{part_bytes}
use Rattle.normal.specs.Texts.{starts_other, is_bare_name, is_bare_value}
use Rattle.normal.specs.Proper.{is_quotable, is_name, is_value}

-- the two quotes
pub quote-cases : (P : ℕ → Type 0) (q : ℕ) → is_quote q ≡ true → P 34 → P 39 → P q
unfolding is_quote
quote-cases P q e p r = go (eqb q 34) (eqb q 39) refl refl e
  where
    go : (a b : Bool) → eqb q 34 ≡ a → eqb q 39 ≡ b → (a || b) ≡ true → P q
    go true b x y e = rw (eqb-true q 34 x) p
    go false true x y e = rw (eqb-true q 39 y) r
    go false false x y e = absurd (true≢false (sym e))

quotable : (s : List ℕ) (q : ℕ) → is_quote q ≡ true → are_of (Not q) s ≡ true → is_quotable s ≡ true
unfolding is_quotable
quotable s q e = quote-cases (λ q. are_of (Not q) s ≡ true → is_quotable s ≡ true) q e (λ h. rw h) (λ h. rw h (or-true (are_of (Not 34) s)))

or_left : (a b : Bool) → a ≡ true → (a || b) ≡ true
or_left a b e = rw e

or_right : (a b : Bool) → b ≡ true → (a || b) ≡ true
or_right a b e = rw e (or-true a)

-- a name where no other line starts
pub bare-name : (s : List ℕ) (at : ℕ) → starts_other (get_or s at 0) ≡ false → at < skipped Name s at → is_bare_name (between s at (skipped Name s at)) ≡ true
unfolding is_bare_name
bare-name s at first h = rw (skipped-are Name s at, between_first s at (skipped Name s at) h, first)

module _ (s : List ℕ) (clean : are_of InLine s ≡ true) (at : ℕ) where
  quoted-proper : {p : Part} → Quoted s at p → is_quotable (part_bytes s p) ≡ true
  quoted-proper q = rw q.is (quotable _ (get_or s at 0) q.quote (skipped-are (Not (get_or s at 0)) s (at + 1)))

  name-some : {p : Part} → NamePart s at p → 1 ≤ length (part_bytes s p)
  name-some {p} n = go n.form
    where
      go : Quoted s at p ⊎ (p ≡ record { start = at; end = skipped Name s at }) → 1 ≤ length (part_bytes s p)
      go (inl q) = let some = rw q.is at n.some in rw q.is (omega (arith, skipped-size (Not (get_or s at 0)) s (at + 1)))
      go (inr is) = let some = rw is at n.some in rw is (omega (arith, skipped-size Name s at))

  pub name-proper : starts_other (get_or s at 0) ≡ false → {p : Part} → NamePart s at p → is_name (part_bytes s p) ≡ true
  unfolding is_name
  name-proper own {p} n =
      rw (le-leb 1 (length (part_bytes s p)) (name-some n), are-between InLine s p.start p.end clean) (go n.form)
    where
      go : Quoted s at p ⊎ (p ≡ record { start = at; end = skipped Name s at }) → (is_bare_name (part_bytes s p) || is_quotable (part_bytes s p)) ≡ true
      go (inl q) = or_right (is_bare_name (part_bytes s p)) (is_quotable (part_bytes s p)) (quoted-proper q)
      go (inr is) = or_left (is_bare_name (part_bytes s p)) (is_quotable (part_bytes s p)) (rw is (bare-name s at own (rw is at n.some)))

  -- ---- a value, from the end of blanks on

  first_of : (n : ℕ) (x : List ℕ) (p : ℕ → Bool) → p 0 ≡ false → p (get_or x 0 0) ≡ false → p (get_or (take n x) 0 0) ≡ false
  first_of zero x p z h = z
  first_of (suc n) [] p z h = z
  first_of (suc n) (b ∷ x) p z h = h

  bare-value : is_blank (get_or s at 0) ≡ false → is_quote (get_or s at 0) ≡ false → is_bare_value (between s at (at + trimmed (drop at s))) ≡ true
  unfolding is_bare_value between is_blank is_quote
  bare-value b q =
      let e : at + trimmed (drop at s) - at ≡ trimmed (drop at s) = omega arith in
      let z : at + 0 ≡ at = omega arith in
      let f : get_or (drop at s) 0 0 ≡ get_or s at 0 = get_or-drop at s 0 0 ∙ rw z in
      rw (e, first_of (trimmed (drop at s)) (drop at s) is_blank refl (rw f b), first_of (trimmed (drop at s)) (drop at s) is_quote refl (rw f q), trimmed-again (drop at s))
      (eq-eqb _ _ (sym (length-take-le (trimmed (drop at s)) (drop at s) (trimmed-le (drop at s)))))

  pub value-proper : is_blank (get_or s at 0) ≡ false → {p : Part} → ValuePart s at p → is_value (part_bytes s p) ≡ true
  unfolding is_value
  value-proper solid {p} v = rw (are-between InLine s p.start p.end clean) (go v)
    where
      go : ValuePart s at p → (is_bare_value (part_bytes s p) || is_quotable (part_bytes s p)) ≡ true
      go (inl q) = or_right (is_bare_value (part_bytes s p)) (is_quotable (part_bytes s p)) (quoted-proper q)
      go (inr b) = or_left (is_bare_value (part_bytes s p)) (is_quotable (part_bytes s p)) (rw b.is (bare-value solid b.bare))
