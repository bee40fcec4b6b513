-- The theorems of commands, each used where it says most; and what doesn't meet the words of the functions' promises.
-- Assumes nothing.
use Rattle.std.specs.Prelude.{Option, Some, None}
use mathlib.Core.Path.{◌≡◌, refl, ap, ◌∙◌}
use mathlib.Core.Bool.{Bool, true, false, true≢false, false≢true}
use mathlib.Core.List.{List, [], ◌∷◌, ◌++◌}
use Prim.Native.Nat.{ℕ, zero, suc, ◌+◌, ◌≤◌}
use native.Mathlib.Omega.{arith}
use lib.ListN.{length, replicate}
use borrow.Author.Tests.{le-leb}
use Rattle.octets.specs.Texts.{text}
use Rattle.command.specs.declared.Piece.{Piece}
use Rattle.command.specs.declared.Pieces.{Pieces}
use Rattle.command.specs.declared.Piece.TheVariants.{Byte, Percent}
use Rattle.command.specs.declared.Shell.TheVariants.{Whole, Cut}
use Rattle.command.specs.Pieces.{pieces}
use Rattle.command.specs.Parts.{shell_line, input_of, text_of}
use Rattle.command.specs.Buffers.{have_room}
use Rattle.command.specs.Inner.{ahead, StepIs, ShellIs}
use Rattle.command.specs.Computing.{splitting}
use Rattle.command.proofs.Theorems.{escaped, kept, ends, unescaped, plain, split-length, input_text, ends_whole, in_shell, shell-none, shell-escaped, input_none, input-escaped, shell-joined, shell-cut, input-joined}

-- split-length: two buffers as long as the command are always enough
pub room-enough : (c shell input : List ℕ) → length c ≤ length shell → length c ≤ length input → have_room c shell input ≡ true
unfolding have_room
room-enough c shell input h k =
    let n = split-length c in
    rw (le-leb (length (shell_line c)) (length shell) (omega (arith, n)), le-leb (length (text_of (input_of c))) (length input) (omega (arith, n))) refl

-- split-length, both parts together: a buffer as long as the shell line, and for the input what is then left of the command's length
pub room-together : (c shell input : List ℕ) → length shell ≡ length (shell_line c) → length shell + length input ≡ length c → have_room c shell input ≡ true
unfolding have_room
room-together c shell input h k =
    let n = split-length c in
    rw (le-leb (length (shell_line c)) (length shell) (omega arith), le-leb (length (text_of (input_of c))) (length input) (omega (arith, n))) refl

-- kept: a backslash, a newline and byte 0 after a backslash too; so `\\%` isn't an escaped `%`
pub kept-used : (s : List ℕ)
    → (pieces false (92 ∷ 92 ∷ s) ≡ Byte 92 ∷ Byte 92 ∷ pieces false s)
    × (pieces false (92 ∷ 10 ∷ s) ≡ Byte 92 ∷ Byte 10 ∷ pieces false s)
    × (pieces false (92 ∷ 0 ∷ s) ≡ Byte 92 ∷ Byte 0 ∷ pieces false s)
kept-used s = (kept 92 s (λ e. omega (arith, e)), kept 10 s (λ e. omega (arith, e)), kept 0 s (λ e. omega (arith, e)))

pub pair-used : (s : List ℕ) → pieces false (92 ∷ 92 ∷ 37 ∷ s) ≡ Byte 92 ∷ Byte 92 ∷ Percent ∷ pieces false s
pair-used s = rw (kept 92 (37 ∷ s) (λ e. omega (arith, e)), unescaped s) refl

-- escaped, ends: `\%\`
pub escaped-used : pieces false (92 ∷ 37 ∷ 92 ∷ []) ≡ Byte 37 ∷ Byte 92 ∷ []
escaped-used = rw (escaped (92 ∷ []), ends) refl

-- plain: the bytes next to `%` and to the backslash, byte 0, newline and 255
pub plain-used : (s : List ℕ)
    → (pieces false (36 ∷ s) ≡ Byte 36 ∷ pieces false s)
    × (pieces false (91 ∷ s) ≡ Byte 91 ∷ pieces false s)
    × (pieces false (0 ∷ s) ≡ Byte 0 ∷ pieces false s)
    × (pieces false (10 ∷ s) ≡ Byte 10 ∷ pieces false s)
    × (pieces false (255 ∷ s) ≡ Byte 255 ∷ pieces false s)
plain-used s = (
  plain 36 s (λ e. omega (arith, e)) (λ e. omega (arith, e)),
  plain 91 s (λ e. omega (arith, e)) (λ e. omega (arith, e)),
  plain 0 s (λ e. omega (arith, e)) (λ e. omega (arith, e)),
  plain 10 s (λ e. omega (arith, e)) (λ e. omega (arith, e)),
  plain 255 s (λ e. omega (arith, e)) (λ e. omega (arith, e)),
)

-- ---- commands of any length

-- `\%` n times
abbrev escapes : ℕ → List ℕ
escapes zero = []
escapes (suc n) = 92 ∷ 37 ∷ escapes n

escapes-whole : (n : ℕ) → (in_shell false (escapes n) ≡ true) × (ends_whole false (escapes n) ≡ true)
escapes-whole zero = (refl, refl)
escapes-whole (suc n) = escapes-whole n

escapes-are : (n : ℕ) → (shell_line (escapes n) ≡ replicate n 37) × (input_text (escapes n) ≡ replicate n 37)
escapes-are zero = (shell-none.0, input_none)
escapes-are (suc n) =
    let later = escapes-are n in
    ((shell-escaped (escapes n)).0 ∙ ap (λ (s : List ℕ). 37 ∷ s) later.0, input-escaped (escapes n) ∙ ap (λ (s : List ℕ). 37 ∷ s) later.1)

-- shell-joined, shell-cut, input-joined: after as many as there are, whatever comes then
pub escapes-used : (n : ℕ) (s : List ℕ)
    → (shell_line (escapes n ++ s) ≡ replicate n 37 ++ shell_line s)
    × (input_of (escapes n ++ s) ≡ input_of s)
    × (shell_line (escapes n ++ 37 ∷ s) ≡ replicate n 37)
    × (input_of (escapes n ++ 37 ∷ s) ≡ Some (input_text s))
    × (input_text (escapes n ++ s) ≡ replicate n 37 ++ input_text s)
escapes-used n s =
    let w = escapes-whole n in
    let e = escapes-are n in
    let j = shell-joined (escapes n) s w.0 in
    let c = shell-cut (escapes n) s w.0 in (
      j.0 ∙ ap (λ (t : List ℕ). t ++ shell_line s) e.0,
      j.1,
      c.0 ∙ e.0,
      c.1,
      input-joined (escapes n) s w.1 ∙ ap (λ (t : List ℕ). t ++ input_text s) e.1,
    )

-- ---- what doesn't meet them

abbrev is_absent : Option (List ℕ) → Bool
is_absent None = true
is_absent (Some t) = false

-- another length; an input that is absent where there is one, and one where there is none
not-shell : (p : Pieces)
    → (ShellIs (text "ab") (Whole 1) → ⊥) × (ShellIs (text "a%") (Whole 1) → ⊥) × (ShellIs (text "ab") (Cut 2 p) → ⊥) × (ShellIs (text "a%b") (Cut 2 p) → ⊥)
unfolding splitting
not-shell p = (
  (λ h. omega (arith, h.0)),
  (λ h. false≢true (ap is_absent h.1)),
  (λ h. true≢false (ap is_absent h.1)),
  (λ h. omega (arith, h.0)),
)

-- a step that stays where it is, a `%` that begins a pair, and a piece that isn't the next
abbrev bytes_ahead : List Piece → ℕ
bytes_ahead [] = 0
bytes_ahead (Byte b ∷ s) = b
bytes_ahead (Percent ∷ s) = 256

not_step :
    (StepIs (text "ab") 1 false (record { piece = Byte 98; next = 1; second = false }) → ⊥)
    × (StepIs (text "%b") 0 false (record { piece = Percent; next = 1; second = true }) → ⊥)
    × (StepIs (text "ab") 0 false (record { piece = Byte 98; next = 1; second = false }) → ⊥)
unfolding ahead splitting
not_step = (
  (λ h. omega (arith, h.onward)),
  (λ h. true≢false (h.unpaired refl)),
  (λ h. let e = ap bytes_ahead h.gives in omega (arith, e)),
)
