-- The laws of the two buffers and of plain commands, for any bytes: what they need is all that is said here.
-- Assumes nothing.
use Rattle.std.specs.Prelude.{Some, None, Ok, Err}
use mathlib.Core.Path.{◌≡◌}
use mathlib.Core.Bool.{true}
use mathlib.Core.List.{List, ◌++◌}
use Prim.Native.Nat.{ℕ, ◌≤◌, ◌<◌}
use native.Mathlib.Omega.{arith}
use lib.ListN.{length, drop}
use Rattle.refusal.specs.declared.Refusal.TheVariants.{TooShort}
use Rattle.command.specs.Parts.{shell_line, input_of, text_of, input_length, lengths_of}
use Rattle.command.specs.Buffers.{split_step}
use Rattle.command.proofs.Composition.{input_text, is_plain, plain-command, split-writes, split-no-shell, split-no-input, lengths-are, input-length}

module _ (c shell input : List ℕ) where
  abbrev line : List ℕ
  line = shell_line c

  abbrev fed : List ℕ
  fed = text_of (input_of c)

  -- split-writes, split-no-shell, split-no-input
  pub split-used :
      (length line ≤ length shell → length fed ≤ length input
      → split_step c shell input
      ≡ record { answer = Ok (record { shell = length line; input = input_length (input_of c) }); shell = line ++ drop (length line) shell; input = fed ++ drop (length fed) input })
      × (length shell < length line → split_step c shell input ≡ record { answer = Err TooShort; shell = shell; input = input })
      × (length input < length fed → split_step c shell input ≡ record { answer = Err TooShort; shell = shell; input = input })
  split-used = (split-writes c shell input, split-no-shell c shell input, split-no-input c shell input)

-- plain-command, for any bytes
pub plain-is : (s : List ℕ) → is_plain s ≡ true → (shell_line s ≡ s) × (input_of s ≡ None) × (input_text s ≡ s)
plain-is s e = plain-command s e

-- and split: it goes to the first buffer as it is, and the second, which may be empty, stays
pub plain-split : (s shell input : List ℕ) → is_plain s ≡ true → length s ≤ length shell
    → split_step s shell input ≡ record { answer = Ok (record { shell = length s; input = None }); shell = s ++ drop (length s) shell; input = input }
unfolding text_of input_length
plain-split s shell input e h =
    let p = plain-command s e in
    rw (p.0, p.1) at (split-writes s shell input (rw p.0 h) (rw p.1 (omega arith)))

-- lengths-are, input-length
pub lengths-used : (c : List ℕ)
    → ((lengths_of c).shell ≡ length (shell_line c))
    × ((lengths_of c).input ≡ input_length (input_of c))
    × (input_length None ≡ None)
    × ((t : List ℕ) → input_length (Some t) ≡ Some (length t))
lengths-used c = ((lengths-are c).0, (lengths-are c).1, input-length.0, input-length.1)
