-- What a caller may rely on: of records (B1 to B16).
--   decompile-compile: the records of a table are read to its normal text, whatever the buffers
--   compile-decompile: the text that is read of a table's records is written to the same records
--   means-no-line: a body of a known kind is refused with R24 exactly where no line, whatever its length, means it
--   later-writer: a later writer's entries and settings are shown, all of them, in order and with their meaning, or the records are refused
--   skipped-kinds: records of skipped kinds, taken out or put in, change at most a refusal's line
--   fault-none: the number of the first bad record is 0 exactly where none is bad
--   fault-lowered: taking them out lowers that number by as many as were taken out before it; none-bad-mixed, lowered-two: both used
--   equal-records: tables that mean the same have the same records
--   decompile-written: and they are read where the text has room
--   compiled-told, decompiled-told, fault-told: a refused call changes no byte, and any call keeps the buffer's length; a bad record is one of them
-- Where each number stands in a record, for any sets, texts and bodies (ByteLayout):
--   minute-bits, hour-bits, day-bits, month-bits, weekday-bits, flag-bits, timed-command: of a timed entry, bit by bit
--   setting-bytes, boot-bytes, record-bytes: of the other bodies, and of a record
--   kind-is: the kind of each item's record (KindNumbers)
-- Of any number of records and any bytes (Composition):
--   records-of-joined, records-joined: a good list of records is written, and read in front of any bytes, item by item
--   cut-one, cut_below, cut_short_lem, kind-unknown, kind-skipped: R22, R23 and skipped, by length and kind
--   compile-refuses, compile-too-long, compile-no-room, compile-writes: what the writer answers, one equation for each way
--   decompile-refuses, decompile-too-many, decompile-too-long, decompile-no-room, decompile-writes: and the reader
-- ManyRecords uses skipped-kinds, fault-lowered, later-writer and records-joined for any number of records.
-- Extremes uses them for each kind and both directions, the second dialect, any buffers, and a list with every kind of record.
-- Assumes nothing.
use Rattle.std.specs.Prelude.{Option, Some, None, Result, Ok, Err}
use mathlib.Core.Path.{◌≡◌, refl, sym, ap, ◌∙◌}
use mathlib.Core.Bool.{Bool, true, false, cond, and-eq-true_iff, ◌&&◌}
use mathlib.Core.List.{List, [], ◌∷◌, ◌++◌}
use Prim.Native.Nat.{ℕ, ◌+◌, ◌*◌, ◌≤◌}
use native.Mathlib.Omega.{arith}
use lib.ListN.{length, take, drop, length-append}
use lib.Seq.{take-append_seam}
use lib.Dec.{leb}
use borrow.Author.Tests.{le-leb, leb-true}
use Rattle.refusal.specs.declared.Refusal.{Refusal}
use Rattle.refusal.specs.declared.Refusal.TheVariants.{TooShort, TooLong, TooManyEntries}
use Rattle.octets.specs.declared.class.Class.TheVariants.{Not}
use Rattle.octets.specs.Runs.{are_of}
use Rattle.octets.specs.OverFront.{over_front}
use Rattle.octets.proofs.LittleEndian.{Bytes, length-little_endian}
use Rattle.field.specs.declared.Dialect.{Dialect}
use Rattle.crontab.specs.Limits.{max_table, max_entries}
use Rattle.line.specs.Limits.{max_line}
use Rattle.crontab.specs.declared.table.Table.{Table}
use Rattle.crontab.specs.declared.table.TableFault.{TableFault}
use Rattle.crontab.specs.Tables.{table_of, refusal_in}
use Rattle.normal.specs.Meanings.{Item, setting, boot, timed, entries_in, of_user, meaning_of}
use Rattle.normal.specs.Texts.{double_quote, single_quote, in_quotes, is_bare_name, is_bare_value, quoted, name_text, value_text, item_text, normal_text, are_short, fits}
use Rattle.normal.specs.NormalForms.{NormalForm, refused_form, form_over_front, form_of, unless_refused, normal_form}
use Rattle.normal.proofs.Forms.{unless-good}
use Rattle.normal.proofs.Theorems.{schedule-long, FormBounded, refused-told, laid-told, items-told, fits-parts, meaning-proper, meaning-few, normal-in-either, written-good, written-means}
use Rattle.normal.specs.Proper.{is_schedule, is_command, is_name, is_value, is_item, are_items}
use Rattle.line.specs.Offsets.{is_allowed_setting}
use Rattle.records.proofs.Packing.{schedule-size}
use Rattle.records.specs.Refusals.{meaningless}
use Rattle.records.specs.Formats.{schedule_bytes, record_of, body_of, records_of}
use Rattle.records.specs.Readings.{refused, content_of, split, decode, decoded_items, decoded_refusal}
use Rattle.records.specs.Calls.{compiled, text_of, unless_bad, decompiled, record_fault}
use Rattle.records.specs.Writers.{LineMeans, Record, longest_body, Framed, All, bytes_of, kept, Sent, as_records, Writer, items_sent, ChangesNone}
use Rattle.records.proofs.Means.{no_line, no-line-back}
use Rattle.records.proofs.Decompiling.{fault-near}
pub use Rattle.records.proofs.ByteLayout.{minute-bits, hour-bits, day-bits, month-bits, weekday-bits, flag-bits, timed-command, setting-bytes, boot-bytes, record-bytes}
pub use Rattle.records.proofs.Composition.{records-of-joined, records-joined, cut-one, cut_below, cut_short_lem, kind-unknown, kind-skipped}
pub use Rattle.records.proofs.Composition.{compile-refuses, compile-too-long, compile-no-room, compile-writes}
pub use Rattle.records.proofs.Composition.{decompile-refuses, decompile-too-many, decompile-too-long, decompile-no-room, decompile-writes}
pub use Rattle.records.proofs.Faults.{fault-none, fault-lowered, lowered-two, none-bad-mixed}
use Rattle.records.proofs.Decoding.{Alike, kept-alike, sent-decoded, Says, Sendable, items-decoded}

-- ---- R24

-- "a body no table line of any length could mean", in either dialect
pub means-no-line : (d : Dialect) (kind : ℕ) (body : List ℕ) → Bytes body → length body ≤ longest_body → 1 ≤ kind → kind ≤ 4
    → (content_of kind body ≡ refused meaningless → (line : List ℕ) → LineMeans d kind body line → ⊥)
    × (((line : List ℕ) → LineMeans d kind body line → ⊥) → content_of kind body ≡ refused meaningless)
means-no-line d kind body bytes short low high = (no_line kind body bytes short d, no-line-back kind body bytes short d low high)

-- ---- what is read

-- by what is said
decoded-form : (s buffer : List ℕ) (is : List Item) → Says (decode s) is → decompiled s buffer ≡ text_of is buffer
unfolding decompiled unless_bad
decoded-form s buffer is x = rw (x.refusal, x.items)

alike-form : (s t buffer : List ℕ) → Alike (decode s) (decode t) → decompiled s buffer ≡ decompiled t buffer
unfolding decompiled
alike-form s t buffer x = rw (x.refusal, x.items)

-- "taking out whole records of such kinds changes at most a refusal's line": of two runs of whole records that differ only in them, and any bytes behind
pub skipped-kinds : (rs qs : List Record) (tail buffer : List ℕ) → All Framed rs → All Framed qs → kept rs ≡ kept qs
    → decompiled (bytes_of rs ++ tail) buffer ≡ decompiled (bytes_of qs ++ tail) buffer
unfolding decode
skipped-kinds rs qs tail buffer f g e =
    alike-form (bytes_of rs ++ tail) (bytes_of (kept rs) ++ tail) buffer (kept-alike 1 1 rs tail f)
    ∙ ap (λ (ks : List Record). decompiled (bytes_of ks ++ tail) buffer) e
    ∙ sym (alike-form (bytes_of qs ++ tail) (bytes_of (kept qs) ++ tail) buffer (kept-alike 1 1 qs tail g))

-- ---- what is written

-- quotes make it no shorter
part-longer : (b : Bool) (s : List ℕ) → length s ≤ length (cond b s (quoted s))
unfolding quoted
part-longer true s = omega arith
part-longer false s = go (are_of (Not double_quote) s)
  where
    go : (t : Bool) → length s ≤ length (cond t (in_quotes double_quote s) (in_quotes single_quote s))
    go true = simp length-append (omega arith)
    go false = simp length-append (omega arith)

-- a body has at most 20 bytes more than the line
body-short : (i : Item) → length (body_of i) ≤ length (item_text i) + 20
unfolding body_of item_text name_text value_text schedule_bytes
body-short (timed s command) = simp (length-append, length-little_endian) (omega arith)
body-short (boot command) = simp (length-append) (omega arith)
body-short (setting name value) =
    simp (length-append, length-little_endian) (omega (arith, part-longer (is_bare_name name) name, part-longer (is_bare_value value) value))

short-sendable : (is : List Item) → are_short is ≡ true → Sendable is
unfolding are_short
short-sendable [] e = tt
short-sendable (i ∷ is) e =
    let t = (and-eq-true_iff (leb (length (item_text i)) max_line) (are_short is)).0 e in
    (omega (arith, body-short i, leb-true (length (item_text i)) max_line t.0), short-sendable is t.1)

-- a good table's records say what it means
pub table-decoded : (d : Dialect) (s : List ℕ) → refusal_in (table_of (of_user d) s) ≡ 0 → fits (meaning_of d s) ≡ true → Says (decode (records_of (meaning_of d s))) (meaning_of d s)
unfolding decode
table-decoded d s good fit = items-decoded 1 (meaning_of d s) (meaning-proper d s good) (short-sendable (meaning_of d s) (fits-parts (meaning_of d s) fit).short)

-- ---- by the answers

-- what is laid is found
laid-wrote : (t buffer : List ℕ) (size : ℕ) → (form_over_front t buffer).answer ≡ Ok size → take size (form_over_front t buffer).buffer ≡ t
unfolding form_over_front refused_form over_front
laid-wrote t buffer size = go (leb (length t) (length buffer))
  where
    form : Bool → NormalForm
    form c = cond c (record { answer = Ok (length t); buffer = t ++ drop (length t) buffer }) (record { answer = Err TooShort; buffer = buffer })

    go : (c : Bool) → (form c).answer ≡ Ok size → take size (form c).buffer ≡ t
    go true e = let z : length t ≡ size = cc in rw (← z) (take-append_seam t (drop (length t) buffer))
    go false e = let z : ◌≡◌ {A = ℕ} 1 0 = cc in absurd (omega arith)

refused_none : {A : Type 0} (refusal : Refusal) (buffer : List ℕ) {size : ℕ} → (refused_form refusal buffer).answer ≡ Ok size → A
unfolding refused_form
refused_none refusal buffer e = let z : ◌≡◌ {A = ℕ} 1 0 = cc in absurd (omega arith)

-- the writer
record Compiled (d : Dialect) (s buffer : List ℕ) (size : ℕ) : Type 0 where
  good : refusal_in (table_of (of_user d) s) ≡ 0
  fit : fits (meaning_of d s) ≡ true
  bytes : take size (compiled d s buffer).buffer ≡ records_of (meaning_of d s)

compiled-so : (d : Dialect) (s buffer : List ℕ) (size : ℕ) → (compiled d s buffer).answer ≡ Ok size → Compiled d s buffer size
unfolding compiled unless_refused
compiled-so d s buffer size = go (table_of (of_user d) s) refl (fits (meaning_of d s)) refl
  where
    go : (table : Result Table TableFault) → table_of (of_user d) s ≡ table → (b : Bool) → fits (meaning_of d s) ≡ b
        → (unless_refused table (cond b (form_over_front (records_of (meaning_of d s)) buffer) (refused_form TooLong buffer)) buffer).answer ≡ Ok size
        → Compiled d s buffer size
    go (Ok t) p true q e = record { good = rw p; fit = q; bytes = rw (p, q) (laid-wrote (records_of (meaning_of d s)) buffer size e) }
    go (Ok t) p false q e = refused_none TooLong buffer e
    go (Err f) p b q e = refused_none f.refusal buffer e

-- the reader
record Decompiled (s buffer : List ℕ) (size : ℕ) : Type 0 where
  whole : decoded_refusal (decode s) ≡ None
  few : entries_in (decoded_items (decode s)) ≤ max_entries
  fit : fits (decoded_items (decode s)) ≡ true
  bytes : take size (decompiled s buffer).buffer ≡ normal_text (decoded_items (decode s))

decompiled-so : (s buffer : List ℕ) (size : ℕ) → (decompiled s buffer).answer ≡ Ok size → Decompiled s buffer size
unfolding decompiled unless_bad text_of form_of
decompiled-so s buffer size = go (decoded_refusal (decode s)) (leb (entries_in is) max_entries) (fits is) refl refl refl
  where
    is : List Item
    is = decoded_items (decode s)

    go : (bad : Option Refusal) (b c : Bool) → decoded_refusal (decode s) ≡ bad → leb (entries_in is) max_entries ≡ b → fits is ≡ c
        → (unless_bad bad (cond b (cond c (form_over_front (normal_text is) buffer) (refused_form TooLong buffer)) (refused_form TooManyEntries buffer)) buffer).answer ≡ Ok size
        → Decompiled s buffer size
    go None true true p q r e =
        record {
          whole = p;
          few = leb-true (entries_in is) max_entries q;
          fit = r;
          bytes = rw (p, q, r) (laid-wrote (normal_text is) buffer size e);
        }
    go None true false p q r e = refused_none TooLong buffer e
    go None false c p q r e = refused_none TooManyEntries buffer e
    go (Some refusal) b c p q r e = refused_none refusal buffer e

-- ---- each way leads back

-- what is read of items that are few
few-form : (d : Dialect) (s buffer : List ℕ) → refusal_in (table_of (of_user d) s) ≡ 0 → text_of (meaning_of d s) buffer ≡ normal_form d s buffer
unfolding text_of normal_form
few-form d s buffer good =
    rw (le-leb (entries_in (meaning_of d s)) max_entries (meaning-few d s good)) (sym (unless-good (table_of (of_user d) s) (form_of (meaning_of d s) buffer) buffer good))

-- "the reader gives its normal text": whatever the answer of the reader, it is that of the normal form
pub decompile-compile : (d : Dialect) (s records text : List ℕ) (size : ℕ) → (compiled d s records).answer ≡ Ok size
    → decompiled (take size (compiled d s records).buffer) text ≡ normal_form d s text
decompile-compile d s records text size e =
    let w = compiled-so d s records size e in
    rw w.bytes (decoded-form (records_of (meaning_of d s)) text (meaning_of d s) (table-decoded d s w.good w.fit) ∙ few-form d s text w.good)

-- and where the text has room, it is read: the writer makes nothing that the reader refuses
pub decompile-written : (d : Dialect) (s records text : List ℕ) (size : ℕ) → (compiled d s records).answer ≡ Ok size
    → length (normal_text (meaning_of d s)) ≤ length text
    → (decompiled (take size (compiled d s records).buffer) text).answer ≡ Ok (length (normal_text (meaning_of d s)))
unfolding normal_form form_of form_over_front
decompile-written d s records text size e room =
    let w = compiled-so d s records size e in
    rw (decompile-compile d s records text size e, unless-good (table_of (of_user d) s) (form_of (meaning_of d s) text) text w.good)
    (rw (w.fit, le-leb (length (normal_text (meaning_of d s))) (length text) room))

-- tables that mean the same have the same records, whatever their dialects
pub equal-records : (d e : Dialect) (s t buffer : List ℕ) → refusal_in (table_of (of_user d) s) ≡ 0 → refusal_in (table_of (of_user e) t) ≡ 0 → meaning_of d s ≡ meaning_of e t
    → compiled d s buffer ≡ compiled e t buffer
unfolding compiled
equal-records d e s t buffer p q same =
    unless-good (table_of (of_user d) s) _ buffer p
    ∙ ap (λ (is : List Item). cond (fits is) (form_over_front (records_of is) buffer) (refused_form TooLong buffer)) same
    ∙ sym (unless-good (table_of (of_user e) t) _ buffer q)

-- "exact inverses on what the writer makes": the text of a table's records is compiled to the same records, in either dialect
pub compile-decompile : (d e : Dialect) (s records text again : List ℕ) (size size' : ℕ) → (compiled d s records).answer ≡ Ok size
    → (decompiled (take size (compiled d s records).buffer) text).answer ≡ Ok size'
    → compiled e (take size' (decompiled (take size (compiled d s records).buffer) text).buffer) again ≡ compiled d s again
compile-decompile d e s records text again size size' p q =
    let w = compiled-so d s records size p in
    let r = decompiled-so (take size (compiled d s records).buffer) text size' q in
    let items : decoded_items (decode (take size (compiled d s records).buffer)) ≡ meaning_of d s = rw w.bytes (table-decoded d s w.good w.fit).items in
    let back = normal-in-either d e s w.good w.fit in
    rw (r.bytes, items) (equal-records e d (normal_text (meaning_of d s)) s again back.0 w.good back.1)

-- ---- a later writer

-- "shows exactly its entries, in order and with their true meaning, or refuses": where the reader writes a text, that is a good table which means them,
-- and all else that was sent changes no entry
pub later-writer : (d : Dialect) (xs : List Sent) (text : List ℕ) (size : ℕ) → Writer xs → (decompiled (bytes_of (as_records xs)) text).answer ≡ Ok size
    → let shown = take size (decompiled (bytes_of (as_records xs)) text).buffer in
    (refusal_in (table_of (of_user d) shown) ≡ 0) × (meaning_of d shown ≡ items_sent xs) × ChangesNone xs
unfolding decode
later-writer d xs text size w e =
    let r = decompiled-so (bytes_of (as_records xs)) text size e in
    let m = sent-decoded 1 xs w r.whole in
    let f = fits-parts (decoded_items (decode (bytes_of (as_records xs)))) r.fit in
    rw r.bytes (
      written-good d (decoded_items (decode (bytes_of (as_records xs)))) m.proper f.short f.small r.few,
      written-means d (decoded_items (decode (bytes_of (as_records xs)))) m.proper f.short f.small r.few ∙ m.items,
      m.none,
    )

-- ---- what comes back

-- a record has at most 7 bytes for 3 of its line, as `A=` has
record-short : (i : Item) → is_item i ≡ true → 3 * (4 + length (body_of i)) ≤ 7 * (length (item_text i) + 1)
unfolding is_item is_name is_command body_of item_text name_text value_text
record-short (timed s command) e =
    let t = (and-eq-true_iff (is_schedule s) (is_command command)).0 e in
    simp (length-append, schedule-size s) (omega (arith, schedule-long s t.0))
record-short (boot command) e = simp length-append (omega arith)
record-short (setting name value) e =
    let some = leb-true 1 (length name) ((and-eq-true_iff (leb 1 (length name)) _).0 ((and-eq-true_iff (is_name name) (is_value value && is_allowed_setting name value)).0 e).0).0 in
    simp (length-append, length-little_endian)
    (omega (arith, some, part-longer (is_bare_name name) name, part-longer (is_bare_value value) value))

records-short : (is : List Item) → are_items is ≡ true → 3 * length (records_of is) ≤ 7 * length (normal_text is)
unfolding records_of record_of normal_text are_items
records-short [] e = omega arith
records-short (i ∷ is) e =
    let t = (and-eq-true_iff (is_item i) (are_items is)).0 e in
    simp (length-append, length-little_endian)
    (omega (arith, record-short i t.0, records-short is t.1, length-append (item_text i) (10 ∷ normal_text is)))

-- EREMOTHYN_MAX_COMPILED
abbrev pub most_records : ℕ
most_records = 114688

pub compiled-told : (d : Dialect) (s buffer : List ℕ) → FormBounded most_records buffer (compiled d s buffer)
unfolding compiled unless_refused
compiled-told d s buffer = go (table_of (of_user d) s) refl (fits (meaning_of d s)) refl
  where
    go : (table : Result Table TableFault) → table_of (of_user d) s ≡ table → (b : Bool) → fits (meaning_of d s) ≡ b
        → FormBounded most_records buffer (unless_refused table (cond b (form_over_front (records_of (meaning_of d s)) buffer) (refused_form TooLong buffer)) buffer)
    go (Ok t) p true q = laid-told most_records (records_of (meaning_of d s)) buffer (omega (arith, records-short (meaning_of d s) (meaning-proper d s (rw p)), (fits-parts (meaning_of d s) q).small))
    go (Ok t) p false q = refused-told most_records TooLong buffer
    go (Err f) p b q = refused-told most_records f.refusal buffer

pub decompiled-told : (s buffer : List ℕ) → FormBounded max_table buffer (decompiled s buffer)
unfolding decompiled unless_bad text_of
decompiled-told s buffer = go (decoded_refusal (decode s)) (leb (entries_in (decoded_items (decode s))) max_entries)
  where
    go : (bad : Option Refusal) (b : Bool)
        → FormBounded max_table buffer (unless_bad bad (cond b (form_of (decoded_items (decode s)) buffer) (refused_form TooManyEntries buffer)) buffer)
    go None true = items-told (decoded_items (decode s)) buffer
    go None false = refused-told max_table TooManyEntries buffer
    go (Some refusal) b = refused-told max_table refusal buffer

-- a bad record is one of them: each has bytes
pub fault-told : (s : List ℕ) → record_fault s ≤ length s
unfolding record_fault decode split
fault-told s = omega (arith, fault-near (length s) 1 s (omega arith))
