-- Views of a setting's name and value: for each answer of `name_at` and `value_at` all that is known of it, proved once. Either is quoted or bare, and
-- a part of its line.
-- Assumes nothing.
use Rattle.std.specs.Prelude.{Some, None, Option}
use mathlib.Core.Path.{◌≡◌, refl}
use mathlib.Core.Bool.{Bool, true, false, cond}
use mathlib.Core.List.{List}
use mathlib.Core.Logic.{◌⊎◌, inl, inr}
use Prim.Native.Nat.{ℕ, ◌+◌, ◌≤◌, ◌<◌}
use native.Mathlib.Omega.{arith}
use lib.ListN.{length, drop, get_or, length-drop}
use lib.Dec.{leb, ltb}
use borrow.Author.Tests.{ltb-true}
use Rattle.octets.specs.declared.class.Class.TheVariants.{Blank, Name, Not}
use Rattle.octets.specs.Classes.{is_quote}
use Rattle.octets.specs.Runs.{skipped, trimmed}
use Rattle.octets.proofs.Runs.{skipped-from, skipped-within, trimmed-le}
use Rattle.line.specs.declared.Part.{Part}
use Rattle.line.specs.declared.assignment.Text.{Text}
use Rattle.line.specs.Assignments.{found, quoted_at, non_empty, name_at, closed, value_at}

-- a part of n bytes
pub record Inside (n : ℕ) (p : Part) : Type 0 where
  pub order : p.start ≤ p.end
  pub within : p.end ≤ n

-- what holds of the part that is found, if one is
abbrev pub FoundAs : (Part → Type 0) → Option Text → Type 0
FoundAs P None = Unit {0}
FoundAs P (Some w) = P w.part

-- between two quotes of a kind, the first of them at a place
pub record Quoted (s : List ℕ) (at : ℕ) (p : Part) : Type 0 where
  pub quote : is_quote (get_or s at 0) ≡ true
  pub is : p ≡ record { start = at + 1; end = skipped (Not (get_or s at 0)) s (at + 1) }
  pub closes : skipped (Not (get_or s at 0)) s (at + 1) < length s

-- a name isn't empty; bare, it has the bytes of a name's class
pub record NamePart (s : List ℕ) (at : ℕ) (p : Part) : Type 0 where
  pub some : p.start < p.end
  pub form : Quoted s at p ⊎ (p ≡ record { start = at; end = skipped Name s at })

-- a bare value is the rest of the line without the blanks at its end
pub record BareValue (s : List ℕ) (at : ℕ) (p : Part) : Type 0 where
  pub bare : is_quote (get_or s at 0) ≡ false
  pub is : p ≡ record { start = at; end = at + trimmed (drop at s) }

abbrev pub ValuePart : List ℕ → ℕ → Part → Type 0
ValuePart s at p = Quoted s at p ⊎ BareValue s at p

module _ (s : List ℕ) (at : ℕ) where
  quoted-view : is_quote (get_or s at 0) ≡ true → FoundAs (Quoted s at) (quoted_at s at)
  unfolding quoted_at
  quoted-view q = go (ltb (skipped (Not (get_or s at 0)) s (at + 1)) (length s)) refl
    where
      end : ℕ
      end = skipped (Not (get_or s at 0)) s (at + 1)

      go : (t : Bool) → ltb end (length s) ≡ t → FoundAs (Quoted s at) (cond t (found (record { start = at + 1; end = end }) (end + 1)) None)
      go true h = record { quote = q; is = refl; closes = ltb-true _ _ h }
      go false h = tt

  pub name-view : FoundAs (NamePart s at) (name_at s at)
  unfolding name_at non_empty
  name-view = go (is_quote (get_or s at 0)) refl
    where
      end : ℕ
      end = skipped Name s at

      some : (t : Option Text) → FoundAs (λ p. Quoted s at p ⊎ (p ≡ record { start = at; end = end })) t → FoundAs (NamePart s at) (non_empty t)
      some None h = tt
      some (Some w) h = kept (ltb w.part.start w.part.end) refl
        where
          kept : (b : Bool) → ltb w.part.start w.part.end ≡ b → FoundAs (NamePart s at) (cond b (found w.part w.next) None)
          kept true e = record { some = ltb-true _ _ e; form = h }
          kept false e = tt

      quoted : (t : Option Text) → FoundAs (Quoted s at) t → FoundAs (λ p. Quoted s at p ⊎ (p ≡ record { start = at; end = end })) t
      quoted None h = tt
      quoted (Some w) h = inl h

      go : (t : Bool) → is_quote (get_or s at 0) ≡ t → FoundAs (NamePart s at) (non_empty (cond t (quoted_at s at) (found (record { start = at; end = end }) end)))
      go true q = some (quoted_at s at) (quoted (quoted_at s at) (quoted-view q))
      go false q = some (found (record { start = at; end = end }) end) (inr refl)

  pub value-view : FoundAs (ValuePart s at) (value_at s at)
  unfolding value_at closed
  value-view = go (is_quote (get_or s at 0)) refl
    where
      end : ℕ
      end = at + trimmed (drop at s)

      alone : (t : Option Text) → FoundAs (Quoted s at) t → FoundAs (ValuePart s at) (closed s t)
      alone None h = tt
      alone (Some w) h = kept (leb (length s) (skipped Blank s w.next))
        where
          kept : (b : Bool) → FoundAs (ValuePart s at) (cond b (found w.part w.next) None)
          kept true = inl h
          kept false = tt

      go : (t : Bool) → is_quote (get_or s at 0) ≡ t
          → FoundAs (ValuePart s at) (cond t (closed s (quoted_at s at)) (found (record { start = at; end = end }) (length s)))
      go true q = alone (quoted_at s at) (quoted-view q)
      go false q = inr (record { bare = q; is = refl })

  -- ---- each is a part of its line

  quoted-inside : {p : Part} → Quoted s at p → Inside (length s) p
  quoted-inside q = rw q.is (record { order = skipped-from _ s (at + 1); within = omega (arith, q.closes) })

  pub name-inside : at ≤ length s → {p : Part} → NamePart s at p → Inside (length s) p
  name-inside h v = go v.form
    where
      go : {p : Part} → Quoted s at p ⊎ (p ≡ record { start = at; end = skipped Name s at }) → Inside (length s) p
      go (inl q) = quoted-inside q
      go (inr is) = rw is (record { order = skipped-from Name s at; within = skipped-within Name s at h })

  pub value-inside : at ≤ length s → {p : Part} → ValuePart s at p → Inside (length s) p
  value-inside h (inl q) = quoted-inside q
  value-inside h (inr b) = rw b.is (record { order = omega arith; within = omega (arith, trimmed-le (drop at s), length-drop at s) })
