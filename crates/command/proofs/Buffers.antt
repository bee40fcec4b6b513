-- Laws of a command's lengths and its split as the functions find them: what each way through the code leaves is what the
-- definitions say.
-- Assumes nothing.
use Rattle.std.specs.Prelude.{Option, Some, None, Ok, Err}
use mathlib.Core.Path.{◌≡◌, refl, sym, ap, ◌∙◌}
use mathlib.Core.Bool.{Bool, true, false, not, ◌&&◌, ◌||◌, false≢true}
use mathlib.Core.List.{List}
use Prim.Native.Nat.{ℕ, ◌≤◌, ◌<◌}
use native.Mathlib.Omega.{arith}
use lib.Dec.{leb, ltb}
use lib.ListN.{length, take}
use lib.Seq.{take_all}
use borrow.Author.Tests.{ltb-true, ltb-false, le-leb, lt-leb}
use Rattle.command.specs.declared.Shell.TheVariants.{Whole, Cut}
use Rattle.command.specs.Pieces.{pieces, bytes_of}
use Rattle.command.specs.Parts.{shell_line, input_of, text_of, input_length, lengths_of}
use Rattle.command.specs.Refusals.{too_short}
use Rattle.octets.specs.OverFront.{over_front}
use Rattle.command.specs.Buffers.{have_room, Split, split_step}
use Rattle.command.specs.declared.Pieces.{Pieces}
use Rattle.command.specs.Inner.{left, ShellIs}
use Rattle.command.proofs.Sizes.{bytes-length, line-front, line-length}

-- ---- room

not_short : (a n : ℕ) → leb n a ≡ not (ltb a n)
not_short a n = go (ltb a n) refl
  where
    go : (b : Bool) → ltb a n ≡ b → leb n a ≡ not (ltb a n)
    go true e = rw (e, lt-leb n a (ltb-true a n e))
    go false e = rw (e, le-leb n a (ltb-false a n e))

-- two texts fit where neither buffer is too short
fits : (a n b m : ℕ) → (leb n a && leb m b) ≡ not (ltb a n || ltb b m)
fits a n b m = rw (not_short a n, not_short b m) (go (ltb a n) (ltb b m))
  where
    go : (p q : Bool) → (not p && not q) ≡ not (p || q)
    go true q = refl
    go false q = refl

pub neither : (a n b m : ℕ) → (ltb a n || ltb b m) ≡ false → (n ≤ a) × (m ≤ b)
neither a n b m e = go (ltb a n) refl e
  where
    go : (p : Bool) → ltb a n ≡ p → (p || ltb b m) ≡ false → (n ≤ a) × (m ≤ b)
    go true q e = absurd (false≢true (sym e))
    go false q e = (ltb-false a n q, ltb-false b m e)

-- ---- lengths

pub whole-lengths : (c : List ℕ) (n : ℕ) → ShellIs c (Whole n) → record { shell = n; input = None } ≡ lengths_of c
unfolding lengths_of input_length
whole-lengths c n is = rw (is.0, is.1)

module _ (c : List ℕ) (n m : ℕ) (rest : Pieces) (is : ShellIs c (Cut n rest)) (counted : m ≡ length (left rest)) where
  cut-input : Some m ≡ input_length (input_of c)
  unfolding input_length
  cut-input = rw (is.1, bytes-length, counted)

  pub cut-lengths : record { shell = n; input = Some m } ≡ lengths_of c
  unfolding lengths_of
  cut-lengths = rw (is.0, cut-input)

  cut-size : length (text_of (input_of c)) ≡ m
  unfolding text_of
  cut-size = rw (is.1, bytes-length) (sym counted)

-- the shell line is no longer than the text that it is the front of
pub line-within : (c : List ℕ) (n : ℕ) → length (shell_line c) ≡ n → n ≤ length (pieces false c)
unfolding shell_line
line-within c n e = omega (arith, line-length (pieces false c))

-- ---- the split

-- as the function shows it: the answer, and both buffers
abbrev SplitIs : (c shell input : List ℕ) → Split → Type 0
SplitIs c shell input s =
    let t = split_step c shell input in (s.answer ≡ t.answer) × ((s.shell ≡ t.shell) × (s.input ≡ t.input))

module _ (c shell input : List ℕ) where
  refused : have_room c shell input ≡ false → SplitIs c shell input (record { answer = Err too_short; shell = shell; input = input })
  unfolding split_step
  refused e = (rw e, (rw e, rw e))

  -- what `fill` leaves in the shell's buffer, and what it leaves in the input's
  written : (n : ℕ) (l : Option ℕ) (line text : List ℕ) → have_room c shell input ≡ true
      → length (shell_line c) ≡ n → l ≡ input_length (input_of c)
      → line ≡ over_front (take n (bytes_of (pieces false c))) shell → text ≡ over_front (text_of (input_of c)) input
      → SplitIs c shell input (record { answer = Ok (record { shell = n; input = l }); shell = line; input = text })
  unfolding split_step shell_line lengths_of
  written n l line text e k q f g =
      let front : take n (bytes_of (pieces false c)) ≡ shell_line c = rw (sym k) (line-front (pieces false c)) in
      (rw (e, sym k, q), (rw e (f ∙ ap (λ (t : List ℕ). over_front t shell) front), rw e g))

  module _ (n : ℕ) (is : ShellIs c (Whole n)) where
    pub whole-refused : length shell < n → SplitIs c shell input (record { answer = Err too_short; shell = shell; input = input })
    unfolding have_room
    whole-refused h = refused (rw (is.0, lt-leb n (length shell) h))

    pub whole-written : (line : List ℕ) → n ≤ length shell → line ≡ over_front (take n (bytes_of (pieces false c))) shell
        → SplitIs c shell input (record { answer = Ok (record { shell = n; input = None }); shell = line; input = input })
    unfolding have_room input_length text_of over_front
    whole-written line h f =
        let room : have_room c shell input ≡ true = rw (is.0, is.1, le-leb n (length shell) h, le-leb 0 (length input) (omega arith)) in
        written n None line input room is.0 (rw is.1) f (rw is.1)

  module _ (n m : ℕ) (rest : Pieces) (is : ShellIs c (Cut n rest)) (counted : m ≡ length (left rest)) where
    cut-room : have_room c shell input ≡ not (ltb (length shell) n || ltb (length input) m)
    unfolding have_room
    cut-room = rw (is.0, cut-size c n m rest is counted) (fits (length shell) n (length input) m)

    pub cut-refused : (ltb (length shell) n || ltb (length input) m) ≡ true
        → SplitIs c shell input (record { answer = Err too_short; shell = shell; input = input })
    cut-refused e = refused (cut-room ∙ ap not e)

    pub cut-written : (line text : List ℕ) → (ltb (length shell) n || ltb (length input) m) ≡ false
        → line ≡ over_front (take n (bytes_of (pieces false c))) shell
        → text ≡ over_front (take m (bytes_of (left rest))) input
        → SplitIs c shell input (record { answer = Ok (record { shell = n; input = Some m }); shell = line; input = text })
    unfolding text_of
    cut-written line text e f g =
        let t = bytes_of (left rest) in
        let all : take m t ≡ t = take_all m t (omega (arith, bytes-length (left rest))) in
        written n (Some m) line text (cut-room ∙ ap not e) is.0 (cut-input c n m rest is counted) f (rw is.1 (rw all at g))
