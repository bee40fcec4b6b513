use Rattle.std.specs.Prelude.{None}
use Rattle.std.proofs.lemmas.Result.{err_from_is_err_and, IfOk-at_ok}
use mathlib.Core.Path.{◌≡◌, refl, sym, ap, ◌∙◌}
use mathlib.Core.Bool.{Bool}
use mathlib.Core.List.{List, []}
use Prim.Native.Nat.{ℕ, ◌+◌, ◌≤◌}
use native.Mathlib.Omega.{arith}
use lib.ListN.{length}
use Rattle.normal.specs.Meanings.{entries_in}
use Rattle.normal.proofs.Forms.{lined-onward, judged-starts, judged-next, judged-ends, refused-tried}
use Rattle.records.specs.Readings.{decode, decoded_items, decoded_refusal}
use Rattle.records.proofs.Decompiling.{decoded_at, decoded-end, decoded-starts, text-next, short-next, entries_next, refusal-next, refusal-here, records-refused, records-many, records-few}
use Rattle.records.proofs.decompile.write.Invariants.{Left}
use Rattle.records.proofs.decompile.write.Goals as goal

-- at the end nothing is
record Done (s : List ℕ) (number at count : ℕ) : Type 0 where
  pub none : decoded_items (decoded_at s number at) ≡ []
  pub good : decoded_refusal (decode s) ≡ None
  pub entries : count ≡ entries_in (decoded_items (decode s))

done : {s before : List ℕ} {at text : ℕ} {now : List ℕ} {count : ℕ} {short : Bool} (left : Left s before at text now count short) → length s ≤ at → Done s left.number at count
unfolding decoded_items decoded_refusal entries_in
done {s} {at = at} left h =
    let end = decoded-end s left.number at h in
    record { none = rw end; good = sym left.refusal ∙ rw end; entries = sym (omega arith) ∙ rw end at left.entries }

pub loop-at-init : goal.loop-at-init
loop-at-init c =
    let all = c.args.s.now in
    let start = decoded-starts all in (
      record {
        number = 1;
        judged = judged-starts _ (ap decoded_items start) (omega arith);
        refusal = ap decoded_refusal start;
        entries = ap (λ x. 0 + entries_in (decoded_items x)) start ∙ omega arith;
      },
      omega arith,
      omega arith,
      refl,
    )

pub advance-step-requires : goal.advance-step-requires
advance-step-requires c = c.loop-at-test.true

pub shape_of-out-in_err-content : goal.shape_of-out-in_err-content
shape_of-out-in_err-content c = c.loop-at.invariant.3

pub returns-in_err-content : goal.returns-in_err-content
returns-in_err-content c =
    let at = c.loop-at.invariant in
    let bad = refusal-here c.advance-step.ensures at.0.number c.in_err-content.was in
    let err = err_from_is_err_and c.from_residual.result c.from_residual.ensures.1 in
    rw (err.1, err.2) (refused-tried (records-refused _ _ (bad ∙ at.0.refusal)) at.3)

pub part-requires : goal.part-requires
part-requires c = let step = c.advance-step.ensures in (step.order, step.within)

pub write-next-requires : goal.write-next-requires
write-next-requires c = rw c.part.ensures.0 (IfOk-at_ok _ c.in_ok-content.was c.advance-step.ensures.parts)

pub overflow_sub-short : goal.overflow_sub-short
overflow_sub-short c = lined-onward c.loop-at.invariant.0.judged.lined c.write-next.ensures

pub overflow_add-count : goal.overflow_add-count
overflow_add-count c =
    let at = c.loop-at.invariant in
    omega (arith, at.1, at.2, c.entries_found-count.ensures.1, c.advance-step.ensures.onward)

pub loop-at-smaller : goal.loop-at-smaller
loop-at-smaller c = let step = c.advance-step.ensures in omega (arith, step.onward, step.within)

pub loop-at-preserved : goal.loop-at-preserved
loop-at-preserved c =
    let at = c.loop-at.invariant in
    let n = at.0.number in
    let step = c.advance-step.ensures in
    let is = c.in_ok-content.was in
    let wrote = rw c.part.ensures.0 at c.write-next.ensures in
    let so = judged-next at.0.judged (text-next step n is) (short-next step n is) wrote in (
      record {
        number = n + 1;
        judged = so;
        refusal = refusal-next step n is ∙ at.0.refusal;
        entries = omega (arith, c.entries_found-count.ensures.0, entries_next step n is, at.0.entries);
      },
      omega (arith, at.1, c.entries_found-count.ensures.1, step.onward),
      step.within,
      so.lined.wrote.size,
    )

pub shape_of-out-then-count-gt-MAX_ENTRIES : goal.shape_of-out-then-count-gt-MAX_ENTRIES
shape_of-out-then-count-gt-MAX_ENTRIES c = c.loop-at.invariant.3

pub returns-then-count-gt-MAX_ENTRIES : goal.returns-then-count-gt-MAX_ENTRIES
returns-then-count-gt-MAX_ENTRIES c =
    let at = c.loop-at in
    let end = done at.invariant.0 c.loop-at-test.false in
    let many = records-many _ end.good (omega (arith, c.if-count-gt-MAX_ENTRIES.true, end.entries)) in
    refused-tried many at.invariant.3

pub shape_of-out-then-short-text : goal.shape_of-out-then-short-text
shape_of-out-then-short-text c = c.loop-at.invariant.3

pub returns-then-short-text : goal.returns-then-short-text
returns-then-short-text c =
    let at = c.loop-at in
    let end = done at.invariant.0 c.loop-at-test.false in
    rw c.if-short-text.true at (judged-ends at.invariant.0.judged end.none (records-few _ end.good (omega (arith, c.if-count-gt-MAX_ENTRIES.false, end.entries))))

pub shape_of-out : goal.shape_of-out
shape_of-out c = c.loop-at.invariant.3

pub returns : goal.returns
returns c =
    let at = c.loop-at in
    let end = done at.invariant.0 c.loop-at-test.false in
    rw c.if-short-text.false at (judged-ends at.invariant.0.judged end.none (records-few _ end.good (omega (arith, c.if-count-gt-MAX_ENTRIES.false, end.entries))))
