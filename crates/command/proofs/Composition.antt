-- A command is read from left to right with no memory but a backslash: what a front of whole pieces gives, and then what the rest gives.
-- The equations of `shell-..` and `input-..` are one for each way a command or a standard input can go on, of any length, so they leave
-- shell line and input no choice.
-- Assumes nothing.
use Rattle.std.specs.Prelude.{Some, None, Ok, Err}
use mathlib.Core.Path.{◌≡◌, refl, ap, ◌∙◌}
use mathlib.Core.Bool.{Bool, true, false, not, cond, ◌&&◌, ◌||◌, and-eq-true_iff, false≢true}
use mathlib.Mathlib.Data.Bool.Basic.{or-eq-false-eq-eq-false-and-eq-false}
use mathlib.Core.List.{List, [], ◌∷◌, ◌++◌, append_assoc, append-nil}
use Prim.Native.Nat.{ℕ, ◌≤◌, ◌<◌}
use lib.Dec.{eqb, leb}
use lib.ListN.{length, drop}
use borrow.Author.Tests.{ne_eqb, eqb-false, not-true, le-leb, lt-leb}
use Rattle.refusal.specs.declared.Refusal.TheVariants.{TooShort}
use Rattle.octets.specs.OverFront.{over_front}
use Rattle.command.specs.declared.Piece.{Piece}
use Rattle.command.specs.declared.Piece.TheVariants.{Byte, Percent}
use Rattle.command.specs.Pieces.{percent, backslash, alone, paired, pieces, byte_of, bytes_of}
use Rattle.command.specs.Parts.{up_to_percent, rest_of, shell_line, input_of, text_of, input_length, lengths_of}
use Rattle.command.specs.Buffers.{have_room, Split, split_step}

-- ---- the shell line, and whether there is input

pub shell-none : (shell_line [] ≡ []) × (input_of [] ≡ None)
unfolding shell_line input_of pieces up_to_percent rest_of
shell-none = (refl, refl)

-- `\%` is a `%`
pub shell-escaped : (s : List ℕ)
    → (shell_line (backslash ∷ percent ∷ s) ≡ percent ∷ shell_line s) × (input_of (backslash ∷ percent ∷ s) ≡ input_of s)
unfolding shell_line input_of pieces alone paired up_to_percent rest_of
shell-escaped s = (refl, refl)

-- a backslash before any other byte: both stay
pub shell-kept : (b : ℕ) (s : List ℕ) → (b ≡ percent → ⊥)
    → (shell_line (backslash ∷ b ∷ s) ≡ backslash ∷ b ∷ shell_line s) × (input_of (backslash ∷ b ∷ s) ≡ input_of s)
unfolding shell_line input_of pieces alone paired up_to_percent rest_of
shell-kept b s n = rw (ne_eqb b percent n) (refl, refl)

-- a backslash at the very end stays
pub shell-backslash : (shell_line (backslash ∷ []) ≡ backslash ∷ []) × (input_of (backslash ∷ []) ≡ None)
unfolding shell_line input_of pieces alone paired up_to_percent rest_of
shell-backslash = (refl, refl)

-- the first other `%` ends the shell line, and there is input
pub shell-ends : (s : List ℕ) → (shell_line (percent ∷ s) ≡ []) × (input_of (percent ∷ s) ≡ Some (text_of (input_of (percent ∷ s))))
unfolding shell_line input_of pieces alone up_to_percent rest_of text_of
shell-ends s = (refl, refl)

-- any other byte is itself
pub shell-plain : (b : ℕ) (s : List ℕ) → (b ≡ percent → ⊥) → (b ≡ backslash → ⊥)
    → (shell_line (b ∷ s) ≡ b ∷ shell_line s) × (input_of (b ∷ s) ≡ input_of s)
unfolding shell_line input_of pieces alone up_to_percent rest_of
shell-plain b s n m = rw (ne_eqb b backslash m, ne_eqb b percent n) (refl, refl)

-- ---- the standard input, which begins behind a `%`

-- the text of a standard input, by the bytes after the `%`
abbrev pub input_text : List ℕ → List ℕ
input_text s = text_of (input_of (percent ∷ s))

pub input_none : input_text [] ≡ []
unfolding input_of pieces alone rest_of text_of bytes_of
input_none = refl

pub input-escaped : (s : List ℕ) → input_text (backslash ∷ percent ∷ s) ≡ percent ∷ input_text s
unfolding input_of pieces alone paired rest_of text_of bytes_of byte_of
input-escaped s = refl

pub input-kept : (b : ℕ) (s : List ℕ) → (b ≡ percent → ⊥) → input_text (backslash ∷ b ∷ s) ≡ backslash ∷ b ∷ input_text s
unfolding input_of pieces alone paired rest_of text_of bytes_of byte_of
input-kept b s n = rw (ne_eqb b percent n) refl

pub input-backslash : input_text (backslash ∷ []) ≡ backslash ∷ []
unfolding input_of pieces alone rest_of text_of bytes_of byte_of
input-backslash = refl

-- each later `%` is a newline
pub input-newline : (s : List ℕ) → input_text (percent ∷ s) ≡ 10 ∷ input_text s
unfolding input_of pieces alone rest_of text_of bytes_of byte_of
input-newline s = refl

pub input-plain : (b : ℕ) (s : List ℕ) → (b ≡ percent → ⊥) → (b ≡ backslash → ⊥) → input_text (b ∷ s) ≡ b ∷ input_text s
unfolding input_of pieces alone rest_of text_of bytes_of byte_of
input-plain b s n m = rw (ne_eqb b backslash m, ne_eqb b percent n) refl

-- ---- a front of whole pieces

-- whether bytes end between two pieces; `true` after a backslash that a byte has to follow
abbrev pub ends_whole : Bool → List ℕ → Bool
ends_whole false [] = true
ends_whole true [] = false
ends_whole false (b ∷ s) = ends_whole (eqb b backslash) s
ends_whole true (b ∷ s) = ends_whole false s

-- and whether no `%` of them is unescaped
abbrev pub in_shell : Bool → List ℕ → Bool
in_shell false [] = true
in_shell true [] = false
in_shell false (b ∷ s) = let later = in_shell (eqb b backslash) s in cond (eqb b percent) false later
in_shell true (b ∷ s) = in_shell false s

-- the pieces of such a front, and then those of the rest
pub pieces-joined : (q : Bool) (a b : List ℕ) → ends_whole q a ≡ true → pieces q (a ++ b) ≡ pieces q a ++ pieces false b
unfolding pieces
pieces-joined false [] b e = refl
pieces-joined true [] b e = absurd (false≢true e)
pieces-joined false (x ∷ a) b e = rw (pieces-joined (eqb x backslash) a b e, append_assoc) refl
pieces-joined true (x ∷ a) b e = rw (pieces-joined false a b e, append_assoc) refl

bytes-joined : (p r : List Piece) → bytes_of (p ++ r) ≡ bytes_of p ++ bytes_of r
unfolding bytes_of
bytes-joined [] r = refl
bytes-joined (x ∷ p) r = ap (λ (s : List ℕ). byte_of x ∷ s) (bytes-joined p r)

input-is : (s : List ℕ) → input_text s ≡ bytes_of (pieces false s)
unfolding input_of pieces alone rest_of text_of
input-is s = refl

-- the text of the standard input is that of a front and then that of the rest
pub input-joined : (a b : List ℕ) → ends_whole false a ≡ true → input_text (a ++ b) ≡ input_text a ++ input_text b
input-joined a b e =
    input-is (a ++ b)
    ∙ ap bytes_of (pieces-joined false a b e)
    ∙ bytes-joined (pieces false a) (pieces false b)
    ∙ rw (input-is a, input-is b) refl

-- what two runs of pieces give where the first has no `%`
abbrev Joins : List Piece → List Piece → List Piece → Type 0
Joins whole front rest = (up_to_percent whole ≡ up_to_percent front ++ up_to_percent rest) × (rest_of whole ≡ rest_of rest)

joins : (q : Bool) (a b : List ℕ) → in_shell q a ≡ true → Joins (pieces q (a ++ b)) (pieces q a) (pieces false b)
unfolding pieces up_to_percent rest_of alone paired
joins false [] b e = (refl, refl)
joins true [] b e = absurd (false≢true e)
joins false (x ∷ a) b e = go (eqb x backslash) (eqb x percent) (joins (eqb x backslash) a b) e
  where
    go : (q p : Bool) → (in_shell q a ≡ true → Joins (pieces q (a ++ b)) (pieces q a) (pieces false b)) → cond p false (in_shell q a) ≡ true
        → Joins (cond q [] (cond p (Percent ∷ []) (Byte x ∷ [])) ++ pieces q (a ++ b)) (cond q [] (cond p (Percent ∷ []) (Byte x ∷ [])) ++ pieces q a) (pieces false b)
    go q true h f = absurd (false≢true f)
    go true false h f = h f
    go false false h f = (ap (λ (s : List ℕ). x ∷ s) (h f).0, (h f).1)
joins true (x ∷ a) b e = go (eqb x percent) (joins false a b e)
  where
    go : (p : Bool) → Joins (pieces false (a ++ b)) (pieces false a) (pieces false b)
        → Joins (cond p (Byte percent ∷ []) (Byte backslash ∷ Byte x ∷ []) ++ pieces false (a ++ b)) (cond p (Byte percent ∷ []) (Byte backslash ∷ Byte x ∷ []) ++ pieces false a) (pieces false b)
    go true h = (ap (λ (s : List ℕ). percent ∷ s) h.0, h.1)
    go false h = (ap (λ (s : List ℕ). backslash ∷ x ∷ s) h.0, h.1)

-- the shell line is that of a front and then that of the rest, and the input is the rest's
pub shell-joined : (a b : List ℕ) → in_shell false a ≡ true → (shell_line (a ++ b) ≡ shell_line a ++ shell_line b) × (input_of (a ++ b) ≡ input_of b)
unfolding shell_line input_of
shell-joined a b e = joins false a b e

-- a command with a `%`: what is before it is the shell line, and what is after it the input
pub shell-cut : (a b : List ℕ) → in_shell false a ≡ true
    → (shell_line (a ++ percent ∷ b) ≡ shell_line a) × (input_of (a ++ percent ∷ b) ≡ Some (input_text b))
shell-cut a b e =
    let j = shell-joined a (percent ∷ b) e in
    (j.0 ∙ rw (shell-ends b).0 (append-nil (shell_line a)), j.1 ∙ (shell-ends b).1)

-- ---- bytes that need no reading

abbrev pub is_plain : List ℕ → Bool
is_plain [] = true
is_plain (b ∷ s) = let later = is_plain s in not (eqb b percent || eqb b backslash) && later

-- a command without `%` and backslash is its shell line and has no input; as input it is itself
pub plain-command : (s : List ℕ) → is_plain s ≡ true → (shell_line s ≡ s) × (input_of s ≡ None) × (input_text s ≡ s)
plain-command [] e = (shell-none.0, shell-none.1, input_none)
plain-command (b ∷ s) e =
    let t = (and-eq-true_iff (not (eqb b percent || eqb b backslash)) (is_plain s)).0 e in
    let u = (or-eq-false-eq-eq-false-and-eq-false (eqb b percent) (eqb b backslash)).0 (not-true _ t.0) in
    let n = eqb-false b percent u.0 in
    let m = eqb-false b backslash u.1 in
    let i = plain-command s t.1 in
    let p = shell-plain b s n m in
    (p.0 ∙ ap (λ (r : List ℕ). b ∷ r) i.0, p.1 ∙ i.1, input-plain b s n m ∙ ap (λ (r : List ℕ). b ∷ r) i.2)

-- ---- the two buffers: both texts with room, or nothing, whatever their lengths

module _ (c shell input : List ℕ) where
  abbrev line : List ℕ
  line = shell_line c

  abbrev fed : List ℕ
  fed = text_of (input_of c)

  pub split-writes : length line ≤ length shell → length fed ≤ length input
      → split_step c shell input
      ≡ record { answer = Ok (record { shell = length line; input = input_length (input_of c) }); shell = line ++ drop (length line) shell; input = fed ++ drop (length fed) input }
  unfolding split_step have_room over_front lengths_of
  split-writes h k = rw (le-leb (length line) (length shell) h, le-leb (length fed) (length input) k) refl

  pub split-no-shell : length shell < length line → split_step c shell input ≡ record { answer = Err TooShort; shell = shell; input = input }
  unfolding split_step have_room
  split-no-shell h = rw (lt-leb (length line) (length shell) h) refl

  pub split-no-input : length input < length fed → split_step c shell input ≡ record { answer = Err TooShort; shell = shell; input = input }
  unfolding split_step have_room lengths_of
  split-no-input h = rw (lt-leb (length fed) (length input) h) (go (leb (length line) (length shell)))
    where
      refused : Split
      refused = record { answer = Err TooShort; shell = shell; input = input }

      wrote : Split
      wrote = record { answer = Ok (record { shell = length line; input = input_length (input_of c) }); shell = over_front line shell; input = over_front fed input }

      go : (t : Bool) → cond (t && false) wrote refused ≡ refused
      go true = refl
      go false = refl

-- the lengths that are answered, of any size
pub lengths-are : (c : List ℕ) → ((lengths_of c).shell ≡ length (shell_line c)) × ((lengths_of c).input ≡ input_length (input_of c))
unfolding lengths_of
lengths-are c = (refl, refl)

pub input-length : (input_length None ≡ None) × ((t : List ℕ) → input_length (Some t) ≡ Some (length t))
unfolding input_length
input-length = (refl, λ t. refl)
