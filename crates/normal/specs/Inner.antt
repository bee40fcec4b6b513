-- What the functions inside promise each other: the line of an item as it is in a table, and what a table comes to where a buffer has
-- room. What a reader must believe is in Texts and NormalForms.
-- Assumes nothing.
use Rattle.std.specs.Prelude.{◌≡◌, ℕ, ◌≤◌, Bool, cond, List, [], ◌∷◌, ◌++◌, length, Option, Some, None, Result, Ok, Err}
use Rattle.refusal.specs.declared.Refusal.{Refusal}
use Rattle.octets.specs.declared.class.Class.TheVariants.{Not}
use Rattle.octets.specs.Classes.{newline}
use Rattle.octets.specs.Clipped.{clipped}
use Rattle.octets.specs.Runs.{are_of, between}
use Rattle.field.specs.declared.Dialect.{Dialect}
use Rattle.crontab.specs.declared.item.Item as line
use Rattle.crontab.specs.declared.item.Item.TheVariants.{Nothing, Setting, Entry}
use Rattle.line.specs.Assignments.{part_bytes}
use Rattle.crontab.specs.declared.table.TableFault.{TableFault}
use Rattle.crontab.specs.Tables.{table_of}
use Rattle.normal.specs.Refusals.{too_long}
use Rattle.normal.specs.Meanings.{setting, entry_item, of_user, meaning_of}
use Rattle.normal.specs.Texts.{double_quote, single_quote, quoted, space, item_text, fits}
use Rattle.normal.specs.NormalForms.{NormalForm, refused_form, form_over_front}

-- ---- a setting

unfoldable pub quote_for : List ℕ → ℕ
quote_for s = cond (are_of (Not double_quote) s) double_quote single_quote

-- a name or a value
abbrev pub bare_or_quoted : Bool → List ℕ → List ℕ
bare_or_quoted bare s = cond bare s (quoted s)

-- ---- an entry

unfoldable pub spaced : List ℕ → List ℕ
spaced t = t ++ space ∷ []

-- ---- a line

-- some bytes of a table
abbrev pub PartOf : List ℕ → ℕ → ℕ → Type 0
PartOf s start end = (start ≤ end) × (end ≤ length s)

-- what is written of an item is in the table
abbrev pub Within : List ℕ → line.Item → Type 0
Within s Nothing = Unit {0}
Within s (Setting name value) = PartOf s name.start name.end × PartOf s value.start value.end
Within s (Entry e) = PartOf s e.start e.end

-- with its newline
unfoldable pub line_text : List ℕ → line.Item → List ℕ
line_text s Nothing = []
line_text s (Setting name value) = item_text (setting (part_bytes s name) (part_bytes s value)) ++ newline ∷ []
line_text s (Entry e) = item_text (entry_item e.when (between s e.start e.end)) ++ newline ∷ []

-- ---- a text of which it is known what refuses it, a buffer's length apart, if anything does

-- what is answered where the buffer has room
unfoldable pub measured : Option Refusal → List ℕ → Result ℕ Refusal
measured None t = Ok (length t)
measured (Some refusal) t = Err refusal

-- and then the buffer
unfoldable pub form_for : Option Refusal → List ℕ → List ℕ → NormalForm
form_for None t buffer = form_over_front t buffer
form_for (Some refusal) t buffer = refused_form refusal buffer

-- what a walk answers that writes as much of the text as fits
pub record Tried (refusal : Option Refusal) (t before : List ℕ) (r : Result ℕ Refusal) (now : List ℕ) : Type 0 where
  pub is : r ≡ measured refusal t
  pub size : length now ≡ length before
  pub text : refusal ≡ None → now ≡ clipped 0 t before

-- ---- a table

-- what refuses a table's text: the table's own fault, or that it doesn't fit
unfoldable pub refusal_by : {A : Type 0} → Result A TableFault → Bool → Option Refusal
refusal_by (Ok t) fit = cond fit None (Some too_long)
refusal_by (Err f) fit = Some f.refusal

unfoldable pub text_refusal : Dialect → List ℕ → Option Refusal
text_refusal d s = refusal_by (table_of (of_user d) s) (fits (meaning_of d s))
