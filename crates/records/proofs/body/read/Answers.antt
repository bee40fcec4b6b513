-- `records::body::read` meets its contract, by the kind.
-- Assumes nothing.
use Rattle.refusal.specs.declared.Refusal.TheVariants.{UnknownKind}
use Rattle.std.proofs.lemmas.Result.{err_from_is_err_and}
use mathlib.Core.Path.{◌≡◌, refl, sym, ◌∙◌}
use mathlib.Core.Bool.{false}
use mathlib.Core.List.{List, [], ◌∷◌}
use mathlib.Core.Logic.{◌⊎◌, inl, inr}
use Prim.Native.Nat.{ℕ, ◌<◌}
use native.Mathlib.Omega.{arith}
use borrow.Author.Tests.{ne_eqb}
use Rattle.normal.specs.Meanings.{boot}
use Rattle.records.specs.declared.kind.Kind.{Kind}
use Rattle.records.specs.declared.kind.Kind.TheVariants.{Setting, Zone}
use Rattle.records.specs.Kinds.{number_of}
use Rattle.records.specs.Readings.{refused, meant, is_skipped, timed_in, setting_in, content_of}
use Rattle.records.specs.InnerReaders.{found}
use Rattle.records.proofs.Readers.{body_is}
use Rattle.records.proofs.body.read.Goals as goal

module _ (n : ℕ) (body : List ℕ) where
  timed_is : 1 ≡ n → meant 1 (timed_in body) ≡ content_of n body
  unfolding content_of is_skipped meant
  timed_is is = rw (← is) refl

  boot_is : 2 ≡ n → meant 2 (boot body ∷ []) ≡ content_of n body
  unfolding content_of is_skipped meant
  boot_is is = rw (← is) refl

  setting_is : {kind : Kind} → (kind ≡ Setting) ⊎ (kind ≡ Zone) → number_of kind ≡ n → meant n (setting_in body) ≡ content_of n body
  unfolding content_of is_skipped meant
  setting_is (inl k) is = let three : 3 ≡ n = rw k at is in rw (← three) refl
  setting_is (inr k) is = let four : 4 ≡ n = rw k at is in rw (← four) refl

none_is : (n : ℕ) (body : List ℕ) → (n ≡ 0) ⊎ (4 < n) → is_skipped n ≡ false → refused UnknownKind ≡ content_of n body
unfolding content_of is_skipped
none_is n body (inl e) some = rw e refl
none_is n body (inr h) some = rw (some, ne_eqb n 1 (λ e. omega arith), ne_eqb n 2 (λ e. omega arith), ne_eqb n 3 (λ e. omega arith), ne_eqb n 4 (λ e. omega arith))

pub returns-then-is_skipped : goal.returns-then-is_skipped
unfolding found content_of
returns-then-is_skipped c = body_is _ _ _ (rw (← c.is_skipped.ensures, c.if-is_skipped.true)) tt

pub returns-in_err-try_from : goal.returns-in_err-try_from
unfolding found
returns-in_err-try_from c =
    let err = err_from_is_err_and c.from_residual.result c.from_residual.ensures.1 in
    let none = c.in_err-try_from.ensures in
    rw (err.1, err.2, none.0) (body_is _ _ _ (none_is _ _ none.1 (sym c.is_skipped.ensures ∙ c.if-is_skipped.false)) tt)

pub returns-in-Timed : goal.returns-in-Timed
returns-in-Timed c =
    let is = rw c.in-Timed.is at c.in_ok-try_from.ensures in
    body_is _ _ _ (c.timed.ensures.0 ∙ timed_is _ _ is) c.timed.ensures.1

pub returns-in-Boot : goal.returns-in-Boot
returns-in-Boot c =
    let is = rw c.in-Boot.is at c.in_ok-try_from.ensures in
    body_is _ _ _ (c.boot.ensures.0 ∙ boot_is _ _ is) c.boot.ensures.1

pub returns-in-Setting : goal.returns-in-Setting
returns-in-Setting c =
    body_is _ _ _ (c.setting.ensures.0 ∙ setting_is _ _ c.in-Setting.is c.in_ok-try_from.ensures) c.setting.ensures.1
