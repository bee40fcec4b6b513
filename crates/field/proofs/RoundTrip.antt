-- A field written back: what is read may be written, what may be written is read back, and with the smallest step.
-- Assumes nothing.
use Rattle.std.specs.Prelude.{Ok, Err, Result}
use mathlib.Core.Path.{◌≡◌, refl, sym, ap, ◌∙◌}
use mathlib.Core.Bool.{Bool, true, false, not, and-eq-true_iff}
use mathlib.Core.List.{List, [], ◌∷◌}
use Prim.Native.Nat.{ℕ, ◌^◌, ◌≤◌, ◌<◌}
use native.Mathlib.Decide.{dec_le}
use native.Mathlib.Omega.{arith}
use lib.Dec.{eqb}
use borrow.Author.Tests.{eq-eqb, ne_eqb, eqb-true, eqb-false, not-true}
use Rattle.field.specs.declared.Limits.{Limits}
use Rattle.field.specs.Values.{including}
use Rattle.field.specs.Fields.{read_field}
use Rattle.field.specs.Written.{star_set, gives, step_of, star_text, members, list_text, field_text, is_field}
use Rattle.field.proofs.UsualLimits.{Usual}
use Rattle.field.proofs.SetBounds.{set-fits}
use Rattle.field.proofs.StarTexts.{star-back, star-read, step-least, step_gives, step-smallest}
use Rattle.field.proofs.ListTexts.{Inside, list_back, members-inside, members-build, set-some}
use Rattle.field.specs.Judgement.{means}
use Rattle.field.specs.declared.Allowed.{Allowed}
use Rattle.field.specs.declared.Fault.{Fault}

-- n gives the set, and no smaller step does
pub record Shortest (l : Limits) (set n : ℕ) : Type 0 where
  pub some : 1 ≤ n
  pub same : star_set l n ≡ set
  pub none : (k : ℕ) → 1 ≤ k → k < n → star_set l k ≡ set → ⊥

module _ (l : Limits) (u : Usual l) where
  -- what is read may be written
  pub field-proper : (column : ℕ) (s : List ℕ) {set : ℕ} {star : Bool} → read_field l column s ≡ means set star → is_field l set star ≡ true
  unfolding is_field
  field-proper column s {set} {star = true} q = let r = star-read l u.order column s q in step_gives l u.order set r.0 r.1 r.2
  field-proper column s {set} {star = false} q =
      rw (ne_eqb set 0 (set-some l u column s q)) (eq-eqb _ set (members-build l u column s q))

  -- what may be written is read back
  pub listed : (column set : ℕ) (vs : List ℕ) → Inside l vs → including l 0 vs ≡ set → (set ≡ 0 → ⊥) → read_field l column (list_text vs) ≡ means set false
  unfolding including
  listed column set [] h e z = absurd (z (sym e))
  listed column set (v ∷ vs) h e z = list_back l u column v vs h ∙ ap (λ (x : ℕ). means x false) e

  pub field_back : (column set : ℕ) (star : Bool) → is_field l set star ≡ true → read_field l column (field_text l set star) ≡ means set star
  unfolding is_field field_text gives
  field_back column set true e =
      let n = step-least l u.order set in
      star-back l u.order column (step_of l set) n.low (omega (arith, n.high, u.word))
      ∙ ap (λ (x : ℕ). means x true) (eqb-true (star_set l (step_of l set)) set e)
  field_back column set false e =
      let t = (and-eq-true_iff (not (eqb set 0)) (eqb (including l 0 (members l set)) set)).0 e in
      listed column set (members l set) (members-inside l set) (eqb-true _ set t.1) (eqb-false set 0 (not-true (eqb set 0) t.0))

  -- and has no bit past the field's
  pub field_fits : (set : ℕ) (star : Bool) → is_field l set star ≡ true → set < 2 ^ l.bits
  field_fits set star e = set-fits l u 0 (field_text l set star) (field_back 0 set star e)

  -- a flagged field is written with the smallest step
  pub shortest-step : (set : ℕ) → is_field l set true ≡ true → (field_text l set true ≡ star_text (step_of l set)) × Shortest l set (step_of l set)
  unfolding is_field field_text gives
  shortest-step set e = (
    refl,
    record {
      some = (step-least l u.order set).low;
      same = eqb-true (star_set l (step_of l set)) set e;
      none = step-smallest l u.order set;
    },
  )

  abbrev set_read : Result Allowed Fault → ℕ
  set_read (Ok v) = v.set
  set_read (Err fault) = 0

  -- `*` stands just where every value is there
  pub plain-star : (set : ℕ) → is_field l set true ≡ true
      → (star_set l 1 ≡ set → field_text l set true ≡ 42 ∷ []) × (field_text l set true ≡ 42 ∷ [] → star_set l 1 ≡ set)
  unfolding field_text star_text
  plain-star set e = (every, plain)
    where
      every : star_set l 1 ≡ set → field_text l set true ≡ 42 ∷ []
      every q =
          let one : step_of l set ≡ 1 =
          elim (dec_le (step_of l set) 1) [ yes k ↦ omega (arith, (step-least l u.order set).low) | no k ↦ absurd (step-smallest l u.order set 1 (omega arith) (omega arith) q) ] in
          rw (eq-eqb (step_of l set) 1 one)

      plain : field_text l set true ≡ 42 ∷ [] → star_set l 1 ≡ set
      plain q =
          let here = star-back l u.order 0 1 (omega arith) (omega arith) in
          let back = field_back 0 set true e in
          let same : means (star_set l 1) true ≡ means set true = cc in
          ap set_read same
