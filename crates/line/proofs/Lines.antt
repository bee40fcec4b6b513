-- Laws of the bytes that no line may have.
-- Assumes nothing.
use Rattle.refusal.specs.declared.Refusal.TheVariants.{NulByte, ControlByte}
use mathlib.Core.Path.{◌≡◌, sym, ◌∙◌}
use mathlib.Core.List.{List}
use Prim.Native.Nat.{ℕ, ◌+◌, ◌≤◌, ◌<◌}
use lib.ListN.{length}
use borrow.Author.Tests.{lt-ltb, le-ltb}
use Rattle.octets.specs.declared.class.Class.TheVariants.{Not, InLine}
use Rattle.octets.specs.Runs.{skipped}
use Rattle.line.specs.Lines.{byte_fault}
use Rattle.octets.proofs.Runs.{skipped-past, no_nul}

-- a search for byte 0 goes on where one for any byte that no line may have ends
module _ (s : List ℕ) (stop nul : ℕ) (p : stop ≡ skipped InLine s 0) (q : nul ≡ skipped (Not 0) s stop) where
  nul-found : skipped (Not 0) s 0 ≡ nul
  nul-found = sym (q ∙ rw p (skipped-past InLine (Not 0) no_nul s 0))

  pub nul-there : nul < length s → record { refusal = NulByte; column = nul + 1 } ≡ byte_fault s
  unfolding byte_fault
  nul-there h = rw (nul-found, lt-ltb nul (length s) h)

  pub nul-not-there : length s ≤ nul → record { refusal = ControlByte; column = stop + 1 } ≡ byte_fault s
  unfolding byte_fault
  nul-not-there h = rw (nul-found, le-ltb nul (length s) h, ← p)
