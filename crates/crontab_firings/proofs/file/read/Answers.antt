use Rattle.std.proofs.Common.{◌≡◌, ℕ, ◌+◌, ◌-◌, ◌≤◌, List, ◌++◌, take, slice_range, sym, ap, ◌∙◌, subst, arith}
use Rattle.std.proofs.KnownBytes.{Consumes-trans}
use Rattle.std.proofs.Math.Seq.{take-add}
use Rattle.std.specs.Io.KnownBytes.{Consumes}
use Rattle.crontab_firings.proofs.file.read.Goals as goal

-- the bytes that stood at the front, and those read after them
take-more : (a b : ℕ) (before now : List ℕ) → a ≤ b → take a now ≡ take a before → take a before ++ slice_range now a b ≡ take b now
take-more a b before now h front =
    let same : a + (b - a) ≡ b = omega arith in
    ap (λ l. l ++ slice_range now a b) (sym front) ∙ sym (take-add a (b - a) now) ∙ ap (λ n. take n now) same

pub loop-at-preserved : goal.loop-at-preserved
loop-at-preserved g c =
    let count = rw c.in-Some.is at c.in_ok-next.ensures.count in
    let bytes = rw c.in-Some.is at c.in_ok-next.ensures.bytes in
    let l = c.loop-at in
    let joined = take-more l.at c.in-Some.next l.text c.read_more.new.text (omega (arith, count.0)) bytes.0 in
    (count.1, subst (Consumes _ _) joined (Consumes-trans _ _ _ _ _ l.invariant.1 bytes.1))
