-- Laws of the walks over records: what a step writes and what it leaves make up what was left before.
-- Assumes nothing.
use Rattle.std.specs.Prelude.{Option, Some, None, Ok, Err}
use mathlib.Core.Path.{◌≡◌, refl, sym, ◌∙◌}
use mathlib.Core.Bool.{Bool, true, false, cond, ◌&&◌}
use mathlib.Core.List.{List, ◌∷◌, ◌++◌, append_assoc}
use Prim.Native.Nat.{ℕ, zero, suc, ◌+◌, ◌≤◌, ◌<◌}
use native.Mathlib.Omega.{arith}
use lib.ListN.{length, drop, length-drop, drop_of_length-le}
use lib.Dec.{eqb, leb}
use borrow.Author.Tests.{le-leb, lt-leb, eqb-false}
use Rattle.refusal.specs.declared.Refusal.{Refusal}
use Rattle.refusal.specs.declared.Refusal.TheVariants.{TooManyEntries, TooLong}
use Rattle.octets.specs.Runs.{between}
use Rattle.line.specs.declared.time.When.{When}
use Rattle.line.specs.declared.time.When.TheVariants.{Reboot, Timed}
use Rattle.crontab.specs.Limits.{max_entries}
use Rattle.line.specs.Limits.{max_line}
use Rattle.normal.specs.Meanings.{Item, entry_item, entries_in}
use Rattle.normal.specs.Texts.{normal_text, are_short, fits}
use Rattle.normal.specs.NormalForms.{refused_form, form_over_front, form_of}
use Rattle.normal.specs.Inner.{form_for}
use Rattle.normal.proofs.Walks.{line-limit}
use Rattle.records.specs.declared.body.Content as held
use Rattle.records.specs.declared.body.Content.TheVariants.{Skipped, Entry, Setting}
use Rattle.records.specs.declared.record.Step.{Step}
use Rattle.records.specs.Readings.{Records, Content, skipped, refused, means, content_of}
use Rattle.records.specs.Readings.{number_at, length_at, is_cut, records_in, split, Decoded, after_record, decode_from, decode, decoded_items, decoded_refusal, decoded_fault}
use Rattle.records.specs.Readings as said
use Rattle.records.specs.Calls.{text_of, unless_bad, decompiled}
use Rattle.records.specs.InnerReaders.{found, StepIs, line_found, items_refusal, first_refusal, records_refusal, entries_found}
use Rattle.records.proofs.Splits.{split-none}

-- ---- the number of the first bad record

-- a bad record is one of them: each has bytes
pub fault-near : (most n : ℕ) (s : List ℕ) → 1 ≤ n → decoded_fault (decode_from n (records_in most s)) + 1 ≤ n + length s
unfolding records_in decode_from decoded_fault after_record
fault-near zero n s h = omega arith
fault-near (suc most) n s h = go (eqb (length s) 0) (is_cut s) refl (fault-near most (n + 1) (drop (2 + length_at s) s) (omega arith))
  where
    later : Records
    later = records_in most (drop (2 + length_at s) s)

    after : (c : Content) → 1 ≤ length s → decoded_fault (decode_from (n + 1) later) + 1 ≤ n + 1 + length (drop (2 + length_at s) s)
        → decoded_fault (after_record n c (decode_from (n + 1) later)) + 1 ≤ n + length s
    after skipped k more = omega (arith, length-drop (2 + length_at s) s)
    after (refused refusal) k more = omega arith
    after (means i) k more = omega (arith, length-drop (2 + length_at s) s)

    go : (a b : Bool) → eqb (length s) 0 ≡ a → decoded_fault (decode_from (n + 1) later) + 1 ≤ n + 1 + length (drop (2 + length_at s) s)
        → decoded_fault (decode_from n (cond a said.Records.done (cond b said.cut (said.next (number_at s 2 2) (between s 4 (2 + length_at s)) later)))) + 1 ≤ n + length s
    go true b e more = omega arith
    go false true e more = omega (arith, eqb-false (length s) 0 e)
    go false false e more = after (content_of (number_at s 2 2) (between s 4 (2 + length_at s))) (omega (arith, eqb-false (length s) 0 e)) more

-- ---- a step

-- what is left at a place, from record n on
abbrev pub decoded_at : List ℕ → ℕ → ℕ → Decoded
decoded_at s n at = decode_from n (split (drop at s))

pub decoded-starts : (s : List ℕ) → decoded_at s 1 0 ≡ decode s
unfolding decode
decoded-starts s = refl

pub decoded-end : (s : List ℕ) (n at : ℕ) → length s ≤ at → decoded_at s n at ≡ said.Decoded.done
unfolding decode_from
decoded-end s n at h = rw (drop_of_length-le s h, split-none)

entry-one : (when : When) (command : List ℕ) (is : List Item) → entries_in (entry_item when command ∷ is) ≡ 1 + entries_in is
unfolding entries_in entry_item
entry-one Reboot command is = omega arith
entry-one (Timed s) command is = omega arith

module _ (body : List ℕ) (n : ℕ) (later : Decoded) where
  found-entries : (x : held.Content) → entries_found x + entries_in (decoded_items later) ≡ entries_in (decoded_items (after_record n (found body (Ok x)) later))
  unfolding found after_record entries_found decoded_items entries_in
  found-entries Skipped = omega arith
  found-entries (Entry when start) = sym (entry-one when (drop start body) (decoded_items later))
  found-entries (Setting value) = omega arith

  found-short : (x : held.Content)
      → (leb (length (line_found body x)) (max_line + 1) && are_short (decoded_items later)) ≡ are_short (decoded_items (after_record n (found body (Ok x)) later))
  unfolding found after_record line_found decoded_items are_short
  found-short Skipped = refl
  found-short (Entry when start) = rw line-limit
  found-short (Setting value) = rw line-limit

  found-refusal : (x : held.Content) → decoded_refusal later ≡ decoded_refusal (after_record n (found body (Ok x)) later)
  unfolding found after_record decoded_refusal
  found-refusal Skipped = refl
  found-refusal (Entry when start) = refl
  found-refusal (Setting value) = refl

  found-text : (x : held.Content) → line_found body x ++ normal_text (decoded_items later) ≡ normal_text (decoded_items (after_record n (found body (Ok x)) later))
  unfolding found after_record line_found decoded_items normal_text
  found-text Skipped = refl
  found-text (Entry when start) = rw append_assoc
  found-text (Setting value) = rw append_assoc

  found-fault : (x : held.Content) → decoded_fault later ≡ decoded_fault (after_record n (found body (Ok x)) later)
  unfolding found after_record decoded_fault
  found-fault Skipped = refl
  found-fault (Entry when start) = refl
  found-fault (Setting value) = refl

module _ {s : List ℕ} {at : ℕ} {r : Step} (step : StepIs s at r) (n : ℕ) where
  body : List ℕ
  body = between s r.start r.end

  later : Decoded
  later = decoded_at s (n + 1) r.end

  pub fault-next : {x : held.Content} → r.content ≡ Ok x → decoded_fault (decoded_at s (n + 1) r.end) ≡ decoded_fault (decoded_at s n at)
  unfolding body later
  fault-next {x} is = found-fault body n later x ∙ rw (step.gives n, is)

  pub fault-here : {refusal : Refusal} → r.content ≡ Err refusal → n ≡ decoded_fault (decoded_at s n at)
  unfolding found after_record decoded_fault
  fault-here is = rw (step.gives n, is)

  pub text-next : {x : held.Content} → r.content ≡ Ok x
      → line_found (between s r.start r.end) x ++ normal_text (decoded_items (decoded_at s (n + 1) r.end)) ≡ normal_text (decoded_items (decoded_at s n at))
  unfolding body later
  text-next {x} is = found-text body n later x ∙ rw (step.gives n, is)

  pub short-next : {x : held.Content} → r.content ≡ Ok x
      → (leb (length (line_found (between s r.start r.end) x)) (max_line + 1) && are_short (decoded_items (decoded_at s (n + 1) r.end))) ≡ are_short (decoded_items (decoded_at s n at))
  unfolding body later
  short-next {x} is = found-short body n later x ∙ rw (step.gives n, is)

  pub entries_next : {x : held.Content} → r.content ≡ Ok x → entries_found x + entries_in (decoded_items (decoded_at s (n + 1) r.end)) ≡ entries_in (decoded_items (decoded_at s n at))
  unfolding body later
  entries_next {x} is = found-entries body n later x ∙ rw (step.gives n, is)

  pub refusal-next : {x : held.Content} → r.content ≡ Ok x → decoded_refusal (decoded_at s (n + 1) r.end) ≡ decoded_refusal (decoded_at s n at)
  unfolding body later
  refusal-next {x} is = found-refusal body n later x ∙ rw (step.gives n, is)

  -- a bad record refuses them all
  pub refusal-here : {refusal : Refusal} → r.content ≡ Err refusal → Some refusal ≡ decoded_refusal (decoded_at s n at)
  unfolding found after_record decoded_refusal
  refusal-here is = rw (step.gives n, is)

-- ---- what refuses them

pub records-refused : (s : List ℕ) (refusal : Refusal) → Some refusal ≡ decoded_refusal (decode s) → Some refusal ≡ records_refusal s
unfolding records_refusal first_refusal
records-refused s refusal e = rw (← e)

module _ (s : List ℕ) (good : decoded_refusal (decode s) ≡ None) where
  pub records-many : max_entries < entries_in (decoded_items (decode s)) → Some TooManyEntries ≡ records_refusal s
  unfolding records_refusal first_refusal items_refusal
  records-many h = rw (good, lt-leb (entries_in (decoded_items (decode s))) max_entries h)

  pub records-few : entries_in (decoded_items (decode s)) ≤ max_entries → records_refusal s ≡ cond (fits (decoded_items (decode s))) None (Some TooLong)
  unfolding records_refusal first_refusal items_refusal
  records-few h = rw (good, le-leb (entries_in (decoded_items (decode s))) max_entries h)

pub decompiled-is : (s buffer : List ℕ) → decompiled s buffer ≡ form_for (records_refusal s) (normal_text (decoded_items (decode s))) buffer
unfolding decompiled text_of form_of form_for records_refusal items_refusal unless_bad first_refusal
decompiled-is s buffer = go (decoded_refusal (decode s)) (leb (entries_in (decoded_items (decode s))) max_entries) (fits (decoded_items (decode s)))
  where
    go : (bad : Option Refusal) (b c : Bool)
        → let t = normal_text (decoded_items (decode s)) in
        unless_bad bad (cond b (cond c (form_over_front t buffer) (refused_form TooLong buffer)) (refused_form TooManyEntries buffer)) buffer
        ≡ form_for (first_refusal bad (cond b (cond c None (Some TooLong)) (Some TooManyEntries))) t buffer
    go None true true = refl
    go None true false = refl
    go None false c = refl
    go (Some refusal) b c = refl
