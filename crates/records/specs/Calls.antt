-- Compiling (B7) and decompiling (B11), each in a buffer: over its front, and if refused no byte is written. The order of refusals is R38.
-- That each undoes the other (B13), and how long records can be (B16), is in proofs/Theorems.
-- Assumes nothing.
use Rattle.std.specs.Prelude.{ℕ, cond, List, leb, Option, Some, None}
use Rattle.refusal.specs.declared.Refusal.{Refusal}
use Rattle.field.specs.declared.Dialect.{Dialect}
use Rattle.crontab.specs.Limits.{max_entries}
use Rattle.crontab.specs.Refusals.{too_many_entries}
use Rattle.crontab.specs.Tables.{table_of}
use Rattle.normal.specs.Refusals.{too_long}
use Rattle.normal.specs.Meanings.{Item, entries_in, of_user, meaning_of}
use Rattle.normal.specs.Texts.{fits}
use Rattle.normal.specs.NormalForms.{NormalForm, refused_form, form_over_front, form_of, unless_refused}
use Rattle.records.specs.Formats.{records_of}
use Rattle.records.specs.Readings.{decode, decoded_items, decoded_refusal, decoded_fault}

-- ---- the writer: a table's bytes, and a buffer for records

-- B7, B13, B16, A12, R38: a table's bytes, and a buffer for records
unfoldable pub compiled : Dialect → List ℕ → List ℕ → NormalForm
compiled d s buffer =
    let items = meaning_of d s in
    unless_refused (table_of (of_user d) s) (cond (fits items) (form_over_front (records_of items) buffer) (refused_form too_long buffer)) buffer

-- ---- the reader: bytes as records, and a buffer for the text

-- B11, R12, R38: the normal form of items
unfoldable pub text_of : List Item → List ℕ → NormalForm
text_of items buffer = cond (leb (entries_in items) max_entries) (form_of items buffer) (refused_form too_many_entries buffer)

-- B12, R38: a bad record's refusal comes first
unfoldable pub unless_bad : Option Refusal → NormalForm → List ℕ → NormalForm
unless_bad None form buffer = form
unless_bad (Some refusal) form buffer = refused_form refusal buffer

-- B11, B13, R38: bytes as records, and a buffer for the text
unfoldable pub decompiled : List ℕ → List ℕ → NormalForm
decompiled s buffer =
    let said = decode s in
    unless_bad (decoded_refusal said) (text_of (decoded_items said) buffer) buffer

-- B12: the number of the first bad record, or 0
unfoldable pub record_fault : List ℕ → ℕ
record_fault s = decoded_fault (decode s)
