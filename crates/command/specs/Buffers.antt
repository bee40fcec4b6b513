-- A split written over the front of two buffers (K6).
-- Assumes nothing.
use Rattle.std.specs.Prelude.{ℕ, Bool, cond, ◌&&◌, List, leb, length, Result, Ok, Err}
use Rattle.octets.specs.OverFront.{over_front}
use Rattle.refusal.specs.declared.Refusal.{Refusal}
use Rattle.command.specs.declared.Lengths.{Lengths}
use Rattle.command.specs.Parts.{shell_line, input_of, text_of, lengths_of}
use Rattle.command.specs.Refusals.{too_short}

-- K6: whether both buffers are long enough; no input needs no bytes
unfoldable pub have_room : List ℕ → List ℕ → List ℕ → Bool
have_room c shell input = leb (length (shell_line c)) (length shell) && leb (length (text_of (input_of c))) (length input)

-- K6: what a split answers, and both buffers after it
pub record Split : Type 0 where
  pub answer : Result Lengths Refusal
  pub shell : List ℕ
  pub input : List ℕ

-- K6, R18: a command's bytes and two buffers
unfoldable pub split_step : List ℕ → List ℕ → List ℕ → Split
split_step c shell input =
    cond (have_room c shell input)
    (record {
      answer = Ok (lengths_of c);
      shell = over_front (shell_line c) shell;
      input = over_front (text_of (input_of c)) input;
    })
    (record { answer = Err too_short; shell = shell; input = input })
