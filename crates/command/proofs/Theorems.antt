-- K1 to K5, one by one, as equations that `pieces` meets. There is one for each way a command can go on, so
-- they leave it no choice; and `split-length`: shell line and input together are no longer than the command.
-- Of the bytes themselves, whatever their length (Composition):
--   shell-none, shell-escaped, shell-kept, shell-backslash, shell-ends, shell-plain: the shell line, and whether there is input, one equation
--     for each way a command can go on
--   input_none, input-escaped, input-kept, input-backslash, input-newline, input-plain: the same for the text of the input
--   shell-joined, shell-cut, input-joined: a front of whole pieces, and then the rest
--   split-writes, split-no-shell, split-no-input, lengths-are, input-length: the two buffers, and the lengths that are answered
--   plain-command: bytes without `%` and backslash are the shell line, and as input they are themselves
-- Assumes nothing.
use mathlib.Core.Path.{◌≡◌, refl}
use mathlib.Core.Bool.{false}
use mathlib.Core.List.{List, [], ◌∷◌}
use Prim.Native.Nat.{ℕ}
use borrow.Author.Tests.{ne_eqb}
use Rattle.command.specs.declared.Piece.TheVariants.{Byte, Percent}
use Rattle.command.specs.Pieces.{percent, backslash, alone, paired, pieces}
pub use Rattle.command.proofs.Sizes.{split-length}
pub use Rattle.command.proofs.Composition.{shell-none, shell-escaped, shell-kept, shell-backslash, shell-ends, shell-plain}
pub use Rattle.command.proofs.Composition.{input_none, input-escaped, input-kept, input-backslash, input-newline, input-plain}
pub use Rattle.command.proofs.Composition.{input_text, ends_whole, in_shell, is_plain, pieces-joined, input-joined, shell-joined, shell-cut, plain-command}
pub use Rattle.command.proofs.Composition.{split-writes, split-no-shell, split-no-input, lengths-are, input-length}

-- backslash and `%` together give `%`
pub escaped : (s : List ℕ) → pieces false (backslash ∷ percent ∷ s) ≡ Byte percent ∷ pieces false s
unfolding pieces alone paired
escaped s = refl

-- a backslash before any other byte stays, and both bytes are passed over as a pair
pub kept : (b : ℕ) (s : List ℕ) → (b ≡ percent → ⊥)
    → pieces false (backslash ∷ b ∷ s) ≡ Byte backslash ∷ Byte b ∷ pieces false s
unfolding pieces alone paired
kept b s n = rw (ne_eqb b percent n)

-- a backslash at the very end stays
pub ends : pieces false (backslash ∷ []) ≡ Byte backslash ∷ []
unfolding pieces alone
ends = refl

-- any other `%`
pub unescaped : (s : List ℕ) → pieces false (percent ∷ s) ≡ Percent ∷ pieces false s
unfolding pieces alone
unescaped s = refl

-- any other byte
pub plain : (b : ℕ) (s : List ℕ) → (b ≡ percent → ⊥) → (b ≡ backslash → ⊥)
    → pieces false (b ∷ s) ≡ Byte b ∷ pieces false s
unfolding pieces alone
plain b s n m = rw (ne_eqb b backslash m, ne_eqb b percent n)
