-- What the functions inside promise each other. What a reader must believe is in Formats, Readings and Calls.
-- Assumes nothing.
use Rattle.std.specs.Prelude.{◌≡◌, ℕ, ◌+◌, ◌-◌, ◌≤◌, ◌<◌, cond, List, [], ◌∷◌, ◌++◌, length, drop, leb, Option, Some, None, Result, Ok, Err, IfOk}
use Rattle.refusal.specs.declared.Refusal.{Refusal}
use Rattle.octets.specs.Classes.{newline}
use Rattle.octets.specs.Runs.{between}
use Rattle.crontab.specs.Limits.{max_entries}
use Rattle.crontab.specs.Refusals.{too_many_entries}
use Rattle.normal.specs.Refusals.{too_long}
use Rattle.line.specs.declared.time.When.TheVariants.{Reboot, Timed}
use Rattle.normal.specs.Meanings.{Item, setting, boot, timed, entry_item, entries_in}
use Rattle.normal.specs.Texts.{item_text, fits}
use Rattle.records.specs.declared.body.Content.{Content}
use Rattle.records.specs.declared.body.Content.TheVariants.{Skipped, Entry, Setting}
use Rattle.records.specs.declared.record.Step.{Step}
use Rattle.records.specs.Refusals.{cut_short}
use Rattle.records.specs.Readings.{number_at, length_at, is_cut, content_of, split, after_record, decode_from, decode, decoded_items, decoded_refusal}
use Rattle.records.specs.Readings as said
use Rattle.records.specs.Writers.{longest_body}

-- ---- one record

-- what is found in a body
unfoldable pub found : List ℕ → Result Content Refusal → said.Content
found body (Ok Skipped) = said.skipped
found body (Ok (Entry when start)) = said.means (entry_item when (drop start body))
found body (Ok (Setting value)) = said.means (setting (between body 2 value) (drop value body))
found body (Err refusal) = said.refused refusal

-- its parts are in the body
abbrev pub Within : List ℕ → Content → Type 0
Within body Skipped = Unit {0}
Within body (Entry when start) = start ≤ length body
Within body (Setting value) = (2 ≤ value) × (value ≤ length body)

-- what a body says, by places in it: a command goes to its end, a name from 2 to where the value starts
unfoldable pub places_of : List ℕ → said.Content → Result Content Refusal
places_of body said.skipped = Ok Skipped
places_of body (said.refused refusal) = Err refusal
places_of body (said.means (timed s command)) = Ok (Entry (Timed s) (length body - length command))
places_of body (said.means (boot command)) = Ok (Entry Reboot (length body - length command))
places_of body (said.means (setting name value)) = Ok (Setting (length body - length value))

-- what is read of a body of a kind, and what follows
pub record BodyIs (kind : ℕ) (body : List ℕ) (r : Result Content Refusal) : Type 0 where
  pub is : r ≡ places_of body (content_of kind body)
  pub gives : found body r ≡ content_of kind body
  pub parts : IfOk r (Within body)

-- The record at a place, and where its body is. The next record starts at the body's end; none is looked for after one that is cut short.
unfoldable pub step_at : List ℕ → ℕ → Step
step_at s at =
    let rest = drop at s in
    let body = between rest 4 (2 + length_at rest) in
    cond (is_cut rest)
    (record { content = Err cut_short; start = length s; end = length s })
    (record { content = places_of body (content_of (number_at rest 2 2) body); start = at + 4; end = at + 2 + length_at rest })

-- what a step from a place is, and what follows
pub record StepIs (s : List ℕ) (at : ℕ) (r : Step) : Type 0 where
  pub is : r ≡ step_at s at
  pub gives : (n : ℕ) → decode_from n (split (drop at s)) ≡ after_record n (found (between s r.start r.end) r.content) (decode_from (n + 1) (split (drop r.end s)))
  pub onward : at < r.end
  pub order : r.start ≤ r.end
  pub within : r.end ≤ length s
  pub short : r.end ≤ r.start + longest_body
  pub parts : IfOk r.content (Within (between s r.start r.end))

-- ---- the line of what is found, with its newline

unfoldable pub line_found : List ℕ → Content → List ℕ
line_found body Skipped = []
line_found body (Entry when start) = item_text (entry_item when (drop start body)) ++ newline ∷ []
line_found body (Setting value) = item_text (setting (between body 2 value) (drop value body)) ++ newline ∷ []

-- ---- all records

-- what refuses their items' text
unfoldable pub items_refusal : List Item → Option Refusal
items_refusal items = cond (leb (entries_in items) max_entries) (cond (fits items) None (Some too_long)) (Some too_many_entries)

-- the first of two refusals, if there is one
unfoldable pub first_refusal : Option Refusal → Option Refusal → Option Refusal
first_refusal None later = later
first_refusal (Some refusal) later = Some refusal

-- what refuses their text, a buffer's length apart, if anything does
unfoldable pub records_refusal : List ℕ → Option Refusal
records_refusal s = first_refusal (decoded_refusal (decode s)) (items_refusal (decoded_items (decode s)))

unfoldable pub entries_found : Content → ℕ
entries_found Skipped = 0
entries_found (Entry when start) = 1
entries_found (Setting value) = 0
