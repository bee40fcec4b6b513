-- Records one after the other, of any number and length: a good list is read in front of whatever comes after it, which then says what it says alone, with
-- later numbers; what each kind of bad record is refused for; and what the two calls answer, for any bytes and buffers.
-- Assumes nothing.
use Rattle.refusal.specs.declared.Refusal.{Refusal}
use Rattle.refusal.specs.declared.Refusal.TheVariants.{CutShort, UnknownKind, TooLong, TooShort, TooManyEntries}
use Rattle.std.specs.Prelude.{Some, None, Ok, Err}
use mathlib.Core.Path.{◌≡◌, refl, ap, ◌∙◌}
use mathlib.Core.Bool.{true, false, cond, and-eq-true_iff}
use mathlib.Core.List.{List, [], ◌∷◌, ◌++◌, append_assoc}
use Prim.Native.Nat.{ℕ, suc, ◌+◌, ◌*◌, ◌≤◌, ◌<◌}
use native.Mathlib.Nat.{add-zero}
use native.Mathlib.Omega.{arith}
use lib.ListN.{length, drop}
use lib.Dec.{eqb}
use borrow.Author.Tests.{le-leb, lt-leb, ne_eqb}
use Rattle.octets.specs.OverFront.{over_front}
use Rattle.octets.specs.Runs.{between}
use Rattle.octets.specs.LittleEndian.{number_of}
use Rattle.field.specs.declared.Dialect.{Dialect}
use Rattle.crontab.specs.declared.table.TableFault.{TableFault}
use Rattle.crontab.specs.Tables.{table_of, refusal_in}
use Rattle.normal.specs.Meanings.{Item, entries_in, of_user, meaning_of}
use Rattle.normal.specs.Texts.{normal_text, fits}
use Rattle.normal.specs.Proper.{is_item, are_items}
use Rattle.normal.specs.NormalForms.{refused_form, form_over_front, form_of, unless_refused}
use Rattle.normal.proofs.Forms.{unless-good}
use Rattle.records.specs.Formats.{record_of, kind_of, body_of, records_of}
use Rattle.records.specs.Readings.{number_at, length_at, is_skipped, Records, Content, skipped, refused, means, content_of, is_cut, split, Decoded, after_record, decode_from, decode, decoded_items, decoded_refusal, decoded_fault}
use Rattle.records.specs.Readings as said
use Rattle.records.specs.Calls.{compiled, text_of, unless_bad, decompiled, record_fault}
use Rattle.records.specs.Writers.{longest_body, Framed}
use Rattle.records.proofs.Bodies.{body_back}
use Rattle.records.proofs.Means.{encodable}
use Rattle.records.proofs.Splits.{split-cut}
use Rattle.records.proofs.Decoding.{decoded-record, from-alike, skipped-content, unknown, kind-small, Sendable}
use Rattle.records.proofs.Readers.{cut-none, cut_small, cut-past}

-- ---- what is written

pub records-of-joined : (a b : List Item) → records_of (a ++ b) ≡ records_of a ++ records_of b
unfolding records_of
records-of-joined [] b = refl
records-of-joined (i ∷ a) b = rw (records-of-joined a b, append_assoc) refl

-- ---- what is read

-- items, and then what comes after them
abbrev say_then : List Item → Decoded → Decoded
say_then [] x = x
say_then (i ∷ is) x = said.item i (say_then is x)

decoded-joined : (n : ℕ) (is : List Item) (tail : List ℕ) → are_items is ≡ true → Sendable is
    → decode_from n (split (records_of is ++ tail)) ≡ say_then is (decode_from (n + length is) (split tail))
unfolding records_of are_items after_record
decoded-joined n [] tail proper h = rw (add-zero n) refl
decoded-joined n (i ∷ is) tail proper h =
    let p = (and-eq-true_iff (is_item i) (are_items is)).0 proper in
    let frame : Framed (record { kind = kind_of i; body = body_of i }) = record { kind = kind-small i; body = h.0 } in
    let e : n + 1 + length is ≡ n + suc (length is) = omega arith in
    rw (
      append_assoc (record_of (kind_of i) (body_of i)) (records_of is) tail,
      decoded-record n (record { kind = kind_of i; body = body_of i }) (records_of is ++ tail) frame,
      body_back i (encodable i p.0 h.0),
      p.0,
    )
    (ap (λ (x : Decoded). said.item i x) (decoded-joined (n + 1) is tail p.1 h.1 ∙ ap (λ (m : ℕ). say_then is (decode_from m (split tail))) e))

then-items : (is : List Item) (x : Decoded) → decoded_items (say_then is x) ≡ is ++ decoded_items x
unfolding decoded_items
then-items [] x = refl
then-items (i ∷ is) x = ap (λ (js : List Item). i ∷ js) (then-items is x)

then-refusal : (is : List Item) (x : Decoded) → decoded_refusal (say_then is x) ≡ decoded_refusal x
unfolding decoded_refusal
then-refusal [] x = refl
then-refusal (i ∷ is) x = then-refusal is x

then-fault : (is : List Item) (x : Decoded) → decoded_fault (say_then is x) ≡ decoded_fault x
unfolding decoded_fault
then-fault [] x = refl
then-fault (i ∷ is) x = then-fault is x

-- the numbers of later records
later-fault : (k n : ℕ) (rs : Records) → 1 ≤ n → decoded_fault (decode_from (n + k) rs) ≡ cond (eqb (decoded_fault (decode_from n rs)) 0) 0 (k + decoded_fault (decode_from n rs))
unfolding decode_from decoded_fault after_record
later-fault k n said.Records.done h = refl
later-fault k n said.cut h = rw (ne_eqb n 0 (λ e. omega (arith, e))) (omega arith)
later-fault k n (said.next kind body later) h =
    let e : n + k + 1 ≡ n + 1 + k = omega arith in
    go (content_of kind body) (ap (λ (m : ℕ). decoded_fault (decode_from m later)) e ∙ later-fault k (n + 1) later (omega arith))
  where
    go : (c : Content) → decoded_fault (decode_from (n + k + 1) later) ≡ cond (eqb (decoded_fault (decode_from (n + 1) later)) 0) 0 (k + decoded_fault (decode_from (n + 1) later))
        → decoded_fault (after_record (n + k) c (decode_from (n + k + 1) later))
        ≡ cond (eqb (decoded_fault (after_record n c (decode_from (n + 1) later))) 0) 0 (k + decoded_fault (after_record n c (decode_from (n + 1) later)))
    go skipped e = e
    go (refused refusal) e = rw (ne_eqb n 0 (λ q. omega (arith, q))) (omega arith)
    go (means i) e = e

-- the records of any items that lines can mean, in front of any bytes: the items, and then those of the bytes; the bytes' refusal; and its record counts on
pub records-joined : (is : List Item) (tail : List ℕ) → are_items is ≡ true → Sendable is
    → (decoded_items (decode (records_of is ++ tail)) ≡ is ++ decoded_items (decode tail))
    × (decoded_refusal (decode (records_of is ++ tail)) ≡ decoded_refusal (decode tail))
    × (record_fault (records_of is ++ tail) ≡ cond (eqb (record_fault tail) 0) 0 (length is + record_fault tail))
unfolding decode record_fault
records-joined is tail proper h =
    let e = decoded-joined 1 is tail proper h in
    let x = decode_from (1 + length is) (split tail) in
    let a = from-alike (1 + length is) 1 (split tail) in (
      ap decoded_items e ∙ then-items is x ∙ ap (λ (js : List Item). is ++ js) a.items,
      ap decoded_refusal e ∙ then-refusal is x ∙ a.refusal,
      ap decoded_fault e ∙ then-fault is x ∙ later-fault (length is) 1 (split tail) (omega arith),
    )

-- ---- bad records: R22 by the two bytes of the length, R23 by the kind

length-is : (a b : ℕ) (s : List ℕ) → length_at (a ∷ b ∷ s) ≡ a + 256 * b
unfolding number_at between number_of
length-is a b s = omega arith

cut-decoded : (n : ℕ) (s : List ℕ) → 0 < length s → is_cut s ≡ true → decode_from n (split s) ≡ said.fault CutShort n
unfolding decode_from
cut-decoded n s h e = rw (split-cut s h e) refl

-- no length
pub cut-one : (n b : ℕ) → decode_from n (split (b ∷ [])) ≡ said.fault CutShort n
cut-one n b = cut-decoded n (b ∷ []) (omega arith) (cut-none (b ∷ []) (omega arith))

-- one below 2
pub cut_below : (n a b : ℕ) (s : List ℕ) → a + 256 * b < 2 → decode_from n (split (a ∷ b ∷ s)) ≡ said.fault CutShort n
cut_below n a b s h = cut-decoded n (a ∷ b ∷ s) (omega arith) (cut_small (a ∷ b ∷ s) (omega (arith, length-is a b s)))

-- fewer bytes than it says
pub cut_short_lem : (n a b : ℕ) (s : List ℕ) → length s < a + 256 * b → decode_from n (split (a ∷ b ∷ s)) ≡ said.fault CutShort n
cut_short_lem n a b s h = cut-decoded n (a ∷ b ∷ s) (omega arith) (cut-past (a ∷ b ∷ s) (omega (arith, length-is a b s)))

-- a kind below 32,768 that isn't 1 to 4, and one from there on, whatever the body and whatever comes after it
module _ (n kind : ℕ) (body rest : List ℕ) (short : length body ≤ longest_body) where
  pub kind-unknown : kind < 32768 → (1 ≤ kind → kind ≤ 4 → ⊥) → decode_from n (split (record_of kind body ++ rest)) ≡ said.fault UnknownKind n
  unfolding after_record is_skipped
  kind-unknown h other =
      decoded-record n (record { kind = kind; body = body }) rest (record { kind = omega arith; body = short })
      ∙ rw (unknown kind body (lt-leb 32768 kind h) other) refl

  pub kind-skipped : 32768 ≤ kind → kind < 65536 → decode_from n (split (record_of kind body ++ rest)) ≡ decode_from (n + 1) (split rest)
  unfolding after_record is_skipped
  kind-skipped h k =
      decoded-record n (record { kind = kind; body = body }) rest (record { kind = omega arith; body = short })
      ∙ rw (skipped-content kind body (le-leb 32768 kind h)) refl

-- ---- what the calls answer, in the order of their refusals

module _ (d : Dialect) (s buffer : List ℕ) where
  abbrev sent : List ℕ
  sent = records_of (meaning_of d s)

  pub compile-refuses : (f : TableFault) → table_of (of_user d) s ≡ Err f → compiled d s buffer ≡ record { answer = Err f.refusal; buffer = buffer }
  unfolding compiled unless_refused refused_form
  compile-refuses f e = rw e refl

  module _ (good : refusal_in (table_of (of_user d) s) ≡ 0) where
    pub compile-too-long : fits (meaning_of d s) ≡ false → compiled d s buffer ≡ record { answer = Err TooLong; buffer = buffer }
    unfolding compiled refused_form
    compile-too-long f = unless-good (table_of (of_user d) s) _ buffer good ∙ rw f refl

    pub compile-no-room : fits (meaning_of d s) ≡ true → length buffer < length sent → compiled d s buffer ≡ record { answer = Err TooShort; buffer = buffer }
    unfolding compiled form_over_front refused_form
    compile-no-room f h = unless-good (table_of (of_user d) s) _ buffer good ∙ rw (f, lt-leb (length sent) (length buffer) h) refl

    pub compile-writes : fits (meaning_of d s) ≡ true → length sent ≤ length buffer
        → compiled d s buffer ≡ record { answer = Ok (length sent); buffer = sent ++ drop (length sent) buffer }
    unfolding compiled form_over_front over_front
    compile-writes f h = unless-good (table_of (of_user d) s) _ buffer good ∙ rw (f, le-leb (length sent) (length buffer) h) refl

module _ (s buffer : List ℕ) where
  abbrev items : List Item
  items = decoded_items (decode s)

  pub decompile-refuses : (refusal : Refusal) → decoded_refusal (decode s) ≡ Some refusal → decompiled s buffer ≡ record { answer = Err refusal; buffer = buffer }
  unfolding decompiled unless_bad refused_form
  decompile-refuses refusal e = rw e refl

  module _ (good : decoded_refusal (decode s) ≡ None) where
    pub decompile-too-many : 512 < entries_in items → decompiled s buffer ≡ record { answer = Err TooManyEntries; buffer = buffer }
    unfolding decompiled unless_bad text_of refused_form
    decompile-too-many h = rw (good, lt-leb (entries_in items) 512 h) refl

    module _ (few : entries_in items ≤ 512) where
      pub decompile-too-long : fits items ≡ false → decompiled s buffer ≡ record { answer = Err TooLong; buffer = buffer }
      unfolding decompiled unless_bad text_of form_of refused_form
      decompile-too-long f = rw (good, le-leb (entries_in items) 512 few, f) refl

      pub decompile-no-room : fits items ≡ true → length buffer < length (normal_text items) → decompiled s buffer ≡ record { answer = Err TooShort; buffer = buffer }
      unfolding decompiled unless_bad text_of form_of form_over_front refused_form
      decompile-no-room f h = rw (good, le-leb (entries_in items) 512 few, f, lt-leb (length (normal_text items)) (length buffer) h) refl

      pub decompile-writes : fits items ≡ true → length (normal_text items) ≤ length buffer
          → decompiled s buffer ≡ record { answer = Ok (length (normal_text items)); buffer = normal_text items ++ drop (length (normal_text items)) buffer }
      unfolding decompiled unless_bad text_of form_of form_over_front over_front
      decompile-writes f h = rw (good, le-leb (entries_in items) 512 few, f, le-leb (length (normal_text items)) (length buffer) h) refl
