-- `records::decompile::write` meets its contract: the lines of the records before a place are written, and those from there on are left.
-- Assumes nothing.
use mathlib.Core.Path.{◌≡◌}
use mathlib.Core.Bool.{Bool}
use mathlib.Core.List.{List}
use Prim.Native.Nat.{ℕ, ◌+◌, ◌-◌, ◌≤◌}
use lib.ListN.{length}
use Rattle.normal.specs.Meanings.{entries_in}
use Rattle.normal.proofs.Forms.{Judged}
use Rattle.records.specs.Readings.{decode, decoded_items, decoded_refusal}
use Rattle.records.proofs.Decompiling.{decoded_at}
use Rattle.records.proofs.decompile.write.Given as goal

-- what is left, from some record on
pub record Left (s before : List ℕ) (at text : ℕ) (now : List ℕ) (count : ℕ) (short : Bool) : Type 0 where
  pub number : ℕ
  pub judged : Judged (decoded_items (decode s)) (decoded_items (decoded_at s number at)) before text now short
  pub refusal : decoded_refusal (decoded_at s number at) ≡ decoded_refusal (decode s)
  pub entries : count + entries_in (decoded_items (decoded_at s number at)) ≡ entries_in (decoded_items (decode s))

abbrev pub invariant-loop-at : goal.invariant-loop-at
invariant-loop-at l = Left l.s l.initial.out l.at l.text l.out l.count l.short × (l.count ≤ l.at) × (l.at ≤ length l.s) × (length l.out ≡ length l.initial.out)

abbrev pub decreases-loop-at : goal.decreases-loop-at
decreases-loop-at l = length l.s - l.at
