-- What bytes say, record by record: items that are written are said again; records of skipped kinds say nothing; a later writer's items are said, or the
-- bytes are refused.
-- Assumes nothing.
use Rattle.refusal.specs.declared.Refusal.TheVariants.{UnknownKind, Meaningless}
use Rattle.line.specs.Words.{same as equal}
use Rattle.std.specs.Prelude.{Some, None}
use mathlib.Core.Path.{◌≡◌, refl, ap}
use mathlib.Core.Bool.{Bool, true, false, cond, and-eq-true_iff}
use mathlib.Core.List.{List, [], ◌∷◌, ◌++◌, append_assoc}
use Prim.Native.Nat.{ℕ, ◌+◌, ◌≤◌, ◌<◌}
use native.Mathlib.Omega.{arith}
use lib.ListN.{length}
use lib.Dec.{eqb}
use borrow.Author.Tests.{leb-true, ne_eqb}
use Rattle.octets.specs.LittleEndian.{width}
use Rattle.line.specs.Offsets.{zone_name}
use Rattle.normal.specs.Meanings.{Item, setting, boot, timed}
use Rattle.normal.specs.Proper.{is_item, are_items}
use Rattle.records.specs.Formats.{record_of, setting_kind_of, kind_of, body_of, records_of}
use Rattle.records.specs.Readings.{Records, Content, skipped, refused, means, meant, content_of, skipped_from, is_skipped, split}
use Rattle.records.specs.Readings.{Decoded, after_record, decode_from, decoded_items, decoded_refusal}
use Rattle.records.specs.Readings as said
use Rattle.records.specs.Writers.{Record, longest_body, Framed, All, bytes_of, kept, Sent, same, new, as_record, as_records, Writer}
use Rattle.records.specs.Writers.{items_sent, ChangesNone}
use Rattle.records.proofs.Splits.{split-none, split-record}
use Rattle.records.proofs.Bodies.{body_back}
use Rattle.records.proofs.Means.{encodable}

-- ---- one record

pub decoded-record : (n : ℕ) (r : Record) (rest : List ℕ) → Framed r
    → decode_from n (split (record_of r.kind r.body ++ rest)) ≡ after_record n (content_of r.kind r.body) (decode_from (n + 1) (split rest))
unfolding decode_from
decoded-record n r rest f = rw (split-record r.kind r.body rest f.kind f.body)

-- ---- the numbers of records matter to a fault alone

-- the same items and the same refusal, perhaps of another record
pub record Alike (a b : Decoded) : Type 0 where
  pub items : decoded_items a ≡ decoded_items b
  pub refusal : decoded_refusal a ≡ decoded_refusal b

after-alike : (m n : ℕ) (c : Content) {a b : Decoded} → Alike a b → Alike (after_record m c a) (after_record n c b)
unfolding after_record decoded_items decoded_refusal
after-alike m n skipped x = x
after-alike m n (refused refusal) x = record { items = refl; refusal = refl }
after-alike m n (means i) x = record { items = ap (λ (is : List Item). i ∷ is) x.items; refusal = x.refusal }

pub from-alike : (m n : ℕ) (rs : Records) → Alike (decode_from m rs) (decode_from n rs)
unfolding decode_from decoded_items decoded_refusal
from-alike m n said.Records.done = record { items = refl; refusal = refl }
from-alike m n said.cut = record { items = refl; refusal = refl }
from-alike m n (said.next kind body later) = after-alike m n (content_of kind body) (from-alike (m + 1) (n + 1) later)

-- ---- skipped kinds

skipped-kind : (kind : ℕ) → is_skipped kind ≡ true → skipped_from ≤ kind
unfolding is_skipped
skipped-kind kind e = leb-true skipped_from kind e

pub skipped-content : (kind : ℕ) (body : List ℕ) → is_skipped kind ≡ true → content_of kind body ≡ skipped
unfolding content_of
skipped-content kind body e = rw e

pub kept-alike : (m n : ℕ) (rs : List Record) (tail : List ℕ) → All Framed rs
    → Alike (decode_from m (split (bytes_of rs ++ tail))) (decode_from n (split (bytes_of (kept rs) ++ tail)))
unfolding bytes_of kept after_record is_skipped
kept-alike m n [] tail h = from-alike m n (split tail)
kept-alike m n (r ∷ rs) tail h =
    rw (append_assoc (record_of r.kind r.body) (bytes_of rs) tail, decoded-record m r (bytes_of rs ++ tail) h.0)
    (go (is_skipped r.kind) refl (λ k. kept-alike (m + 1) k rs tail h.1))
  where
    go : (t : Bool) → is_skipped r.kind ≡ t
        → ((k : ℕ) → Alike (decode_from (m + 1) (split (bytes_of rs ++ tail))) (decode_from k (split (bytes_of (kept rs) ++ tail))))
        → Alike (after_record m (content_of r.kind r.body) (decode_from (m + 1) (split (bytes_of rs ++ tail))))
        (decode_from n (split (bytes_of (cond t (kept rs) (r ∷ kept rs)) ++ tail)))
    go true e more = rw (skipped-content r.kind r.body e) (more n)
    go false e more =
        rw (append_assoc (record_of r.kind r.body) (bytes_of (kept rs)) tail, decoded-record n r (bytes_of (kept rs) ++ tail) h.0)
        (after-alike m n (content_of r.kind r.body) (more (n + 1)))

-- ---- a later writer

-- what is read of it where it isn't refused
pub record Shown (x : Decoded) (xs : List Sent) : Type 0 where
  pub items : decoded_items x ≡ items_sent xs
  pub proper : are_items (decoded_items x) ≡ true
  pub none : ChangesNone xs

pub unknown : (kind : ℕ) (body : List ℕ) → is_skipped kind ≡ false → (1 ≤ kind → kind ≤ 4 → ⊥) → content_of kind body ≡ refused UnknownKind
unfolding content_of
unknown kind body e other =
    let past : (k : ℕ) → 1 ≤ k → k ≤ 4 → eqb kind k ≡ false = λ k low high. ne_eqb kind k (λ q. other (omega (arith, q)) (omega (arith, q))) in
    rw (e, past 1 (omega arith) (omega arith), past 2 (omega arith) (omega arith), past 3 (omega arith) (omega arith), past 4 (omega arith) (omega arith))

pub sent-decoded : (n : ℕ) (xs : List Sent) → Writer xs → decoded_refusal (decode_from n (split (bytes_of (as_records xs)))) ≡ None
    → Shown (decode_from n (split (bytes_of (as_records xs)))) xs
unfolding bytes_of as_records as_record items_sent decode_from decoded_items decoded_refusal are_items meant after_record
sent-decoded n [] h e = rw split-none (record { items = refl; proper = refl; none = tt })
sent-decoded n (same i ∷ xs) h e =
    rw (decoded-record n (as_record (same i)) (bytes_of (as_records xs)) h.1, body_back i h.0)
    (go (is_item i) refl (rw (decoded-record n (as_record (same i)) (bytes_of (as_records xs)) h.1, body_back i h.0) at e) (sent-decoded (n + 1) xs h.2))
  where
    later : Decoded
    later = decode_from (n + 1) (split (bytes_of (as_records xs)))

    go : (t : Bool) → is_item i ≡ t → decoded_refusal (after_record n (cond t (means i) (refused Meaningless)) later) ≡ None → (decoded_refusal later ≡ None → Shown later xs)
        → Shown (after_record n (cond t (means i) (refused Meaningless)) later) (same i ∷ xs)
    go true p e more =
        let m = more e in
        record { items = ap (λ (is : List Item). i ∷ is) m.items; proper = rw p m.proper; none = m.none }
    go false p e more = cc
sent-decoded n (new r ∷ xs) h e =
    rw (decoded-record n r (bytes_of (as_records xs)) h.1)
    (go (is_skipped r.kind) refl (rw (decoded-record n r (bytes_of (as_records xs)) h.1) at e) (sent-decoded (n + 1) xs h.2))
  where
    later : Decoded
    later = decode_from (n + 1) (split (bytes_of (as_records xs)))

    go : (t : Bool) → is_skipped r.kind ≡ t → decoded_refusal (after_record n (content_of r.kind r.body) later) ≡ None
        → (decoded_refusal later ≡ None → Shown later xs) → Shown (after_record n (content_of r.kind r.body) later) (new r ∷ xs)
    go true p e more =
        let c = skipped-content r.kind r.body p in
        let m = more (rw c at e) in
        rw c (record { items = m.items; proper = m.proper; none = (skipped-kind r.kind p, m.none) })
    go false p e more = let z : Some UnknownKind ≡ None = rw (unknown r.kind r.body p h.0) at e in cc

-- ---- what is written

-- it says these items, and isn't refused
pub record Says (x : Decoded) (is : List Item) : Type 0 where
  pub items : decoded_items x ≡ is
  pub refusal : decoded_refusal x ≡ None

abbrev pub Sendable : List Item → Type 0
Sendable [] = Unit {0}
Sendable (i ∷ is) = (length (body_of i) ≤ longest_body) × Sendable is

pub kind-small : (i : Item) → kind_of i < width 2
unfolding kind_of setting_kind_of
kind-small (timed s command) = omega arith
kind-small (boot command) = omega arith
kind-small (setting name value) = go (equal name zone_name)
  where
    go : (t : Bool) → cond t 4 3 < width 2
    go true = omega arith
    go false = omega arith

pub items-decoded : (n : ℕ) (is : List Item) → are_items is ≡ true → Sendable is → Says (decode_from n (split (records_of is))) is
unfolding records_of are_items decoded_items decoded_refusal decode_from meant after_record
items-decoded n [] proper h = rw split-none (record { items = refl; refusal = refl })
items-decoded n (i ∷ is) proper h =
    let p = (and-eq-true_iff (is_item i) (are_items is)).0 proper in
    let more = items-decoded (n + 1) is p.1 h.1 in
    let frame : Framed (record { kind = kind_of i; body = body_of i }) = record { kind = kind-small i; body = h.0 } in
    rw (decoded-record n (record { kind = kind_of i; body = body_of i }) (records_of is) frame, body_back i (encodable i p.0 h.0), p.0)
    (record { items = ap (λ (js : List Item). i ∷ js) more.items; refusal = more.refusal })
