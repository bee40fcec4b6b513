-- The normal form of a user table in a buffer (P9). The order of refusals is R38. The table is read in a dialect, and the text is the same
-- in either (P10).
-- Assumes nothing.
use Rattle.std.specs.Prelude.{ℕ, cond, List, length, leb, Result, Ok, Err}
use Rattle.refusal.specs.declared.Refusal.{Refusal}
use Rattle.octets.specs.OverFront.{over_front}
use Rattle.field.specs.declared.Dialect.{Dialect}
use Rattle.crontab.specs.declared.table.TableFault.{TableFault}
use Rattle.crontab.specs.Tables.{table_of}
use Rattle.normal.specs.Refusals.{too_short, too_long}
use Rattle.normal.specs.Meanings.{Item, of_user, meaning_of}
use Rattle.normal.specs.Texts.{normal_text, fits}

-- P9: the answer, and the buffer after it
pub record NormalForm : Type 0 where
  pub answer : Result ℕ Refusal
  pub buffer : List ℕ

-- R40: no byte is written
unfoldable pub refused_form : Refusal → List ℕ → NormalForm
refused_form refusal buffer = record { answer = Err refusal; buffer = buffer }

-- P9, R18: a text over the front of a buffer that is long enough
unfoldable pub form_over_front : List ℕ → List ℕ → NormalForm
form_over_front t buffer =
    cond (leb (length t) (length buffer))
    (record { answer = Ok (length t); buffer = over_front t buffer })
    (refused_form too_short buffer)

-- P8, R21, R38: items in a buffer, if they fit
unfoldable pub form_of : List Item → List ℕ → NormalForm
form_of items buffer = cond (fits items) (form_over_front (normal_text items) buffer) (refused_form too_long buffer)

-- P9, R38: the table's refusal comes first
unfoldable pub unless_refused : {A : Type 0} → Result A TableFault → NormalForm → List ℕ → NormalForm
unless_refused (Ok t) form buffer = form
unless_refused (Err f) form buffer = refused_form f.refusal buffer

-- P9, A12, R38: a table's bytes in a buffer
unfoldable pub normal_form : Dialect → List ℕ → List ℕ → NormalForm
normal_form d s buffer = unless_refused (table_of (of_user d) s) (form_of (meaning_of d s) buffer) buffer
