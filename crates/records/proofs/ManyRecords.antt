-- The theorems of records for any number of them: n records of skipped kinds, n entries, n faults later. A theorem that held for a few records alone would not
-- give these.
-- Assumes nothing.
use Rattle.std.specs.Prelude.{Ok}
use mathlib.Core.Path.{◌≡◌, refl, ap, ◌∙◌}
use mathlib.Core.Bool.{true}
use mathlib.Core.List.{List, [], ◌∷◌, ◌++◌, append_assoc}
use Prim.Native.Nat.{ℕ, zero, suc, ◌+◌, ◌-◌, ◌≤◌}
use native.Mathlib.Omega.{arith}
use native.Mathlib.Nat.{add-zero}
use lib.ListN.{length, take}
use Rattle.octets.specs.Texts.{text}
use Rattle.field.specs.declared.Dialect.{Dialect}
use Rattle.crontab.specs.Tables.{table_of, refusal_in}
use Rattle.normal.specs.Meanings.{Item, boot, of_user, meaning_of}
use Rattle.normal.specs.Proper.{are_items}
use Rattle.records.specs.Formats.{record_of, records_of}
use Rattle.records.specs.Readings.{decode_from, decode, decoded_items, split, decoded_fault}
use Rattle.records.specs.Calls.{decompiled, record_fault}
use Rattle.records.specs.Writers.{Record, Framed, All, bytes_of, kept, skipped_in, Sent, same, new, as_record, as_records, Writer, items_sent}
use Rattle.records.specs.Computing.{coding}
use Rattle.records.proofs.Decoding.{Sendable}
use Rattle.records.proofs.Composition.{records-joined, kind-skipped, cut-one}
use Rattle.records.proofs.Theorems.{skipped-kinds, fault-lowered, later-writer}

-- ---- n records of the last kind, each before an `@reboot y`, and any records after them

abbrev unseen : Record
unseen = record { kind = 65535; body = 7 ∷ [] }

abbrev booted : Record
booted = record { kind = 2; body = text "y" }

abbrev pairs : ℕ → List Record → List Record
pairs zero rs = rs
pairs (suc n) rs = unseen ∷ booted ∷ pairs n rs

abbrev boots : ℕ → List Record → List Record
boots zero rs = rs
boots (suc n) rs = booted ∷ boots n rs

module _ (rs : List Record) (framed : All Framed rs) where
  pairs-framed : (n : ℕ) → All Framed (pairs n rs)
  pairs-framed zero = framed
  pairs-framed (suc n) = (record { kind = omega arith; body = omega arith }, (record { kind = omega arith; body = omega arith }, pairs-framed n))

  boots-framed : (n : ℕ) → All Framed (boots n rs)
  boots-framed zero = framed
  boots-framed (suc n) = (record { kind = omega arith; body = omega arith }, boots-framed n)

  pairs-kept : (n : ℕ) → kept (pairs n rs) ≡ kept (boots n rs)
  unfolding kept
  pairs-kept zero = refl
  pairs-kept (suc n) = ap (λ (qs : List Record). booted ∷ qs) (pairs-kept n)

  -- skipped-kinds: taken out or put in, as many as there are
  pub skipped-many : (n : ℕ) (tail buffer : List ℕ) → decompiled (bytes_of (pairs n rs) ++ tail) buffer ≡ decompiled (bytes_of (boots n rs) ++ tail) buffer
  skipped-many n tail buffer = skipped-kinds (pairs n rs) (boots n rs) tail buffer (pairs-framed n) (boots-framed n) (pairs-kept n)

-- ---- fault-lowered: a record that is cut short after n skipped ones has the number n + 1, and 1 where they are taken out

abbrev unseens : ℕ → List Record
unseens zero = []
unseens (suc n) = unseen ∷ unseens n

unseens-framed : (n : ℕ) → All Framed (unseens n)
unseens-framed zero = tt
unseens-framed (suc n) = (record { kind = omega arith; body = omega arith }, unseens-framed n)

unseens-kept : (n : ℕ) → kept (unseens n) ≡ []
unfolding kept
unseens-kept zero = refl
unseens-kept (suc n) = unseens-kept n

unseens-skipped : (n k : ℕ) → n ≤ k → skipped_in (take k (unseens n)) ≡ n
unfolding skipped_in
unseens-skipped zero zero h = refl
unseens-skipped zero (suc k) h = refl
unseens-skipped (suc n) zero h = absurd (omega arith)
unseens-skipped (suc n) (suc k) h = ap suc (unseens-skipped n k (omega arith))

cut-alone : (record_fault (5 ∷ []) ≡ 1) × (decoded_items (decode (5 ∷ [])) ≡ [])
unfolding coding
cut-alone = (refl, refl)

unseen-decoded : (m n : ℕ) (tail : List ℕ) → decode_from m (split (bytes_of (unseens n) ++ tail)) ≡ decode_from (m + n) (split tail)
unfolding bytes_of
unseen-decoded m zero tail = rw (add-zero m) refl
unseen-decoded m (suc n) tail =
    let e : m + 1 + n ≡ m + suc n = omega arith in
    rw (append_assoc (record_of 65535 (7 ∷ [])) (bytes_of (unseens n)) tail, kind-skipped m 65535 (7 ∷ []) (bytes_of (unseens n) ++ tail) (omega arith) (omega arith) (omega arith))
    (unseen-decoded (m + 1) n tail ∙ ap (λ (k : ℕ). decode_from k (split tail)) e)

pub unseens-fault : (n : ℕ) → record_fault (bytes_of (unseens n) ++ (5 ∷ [])) ≡ 1 + n
unfolding record_fault decode decoded_fault
unseens-fault n = ap decoded_fault (unseen-decoded 1 n (5 ∷ []) ∙ cut-one (1 + n) 5)

pub lowered-many : (n : ℕ) → record_fault (bytes_of (kept (unseens n)) ++ (5 ∷ [])) ≡ 1
lowered-many n =
    let e = rw (unseens-fault n) at (fault-lowered (unseens n) (5 ∷ []) (unseens-framed n)) in
    let k = unseens-skipped n (1 + n - 1) (omega arith) in
    omega (arith, e, k)

-- ---- later-writer: n entries, each after a record that today's reader doesn't know

abbrev sends : ℕ → List Sent
sends zero = []
sends (suc n) = new unseen ∷ same (boot (text "y")) ∷ sends n

abbrev sent_items : ℕ → List Item
sent_items zero = []
sent_items (suc n) = boot (text "y") ∷ sent_items n

sends-kept : (n : ℕ) → Writer (sends n)
unfolding as_record coding
sends-kept zero = tt
sends-kept (suc n) = (
  (λ h k. omega (arith, k)),
  record { kind = omega arith; body = omega arith },
  (tt, record { kind = omega arith; body = omega arith }, sends-kept n),
)

sends_items : (n : ℕ) → items_sent (sends n) ≡ sent_items n
unfolding items_sent
sends_items zero = refl
sends_items (suc n) = ap (λ (is : List Item). boot (text "y") ∷ is) (sends_items n)

pub later-many : (d : Dialect) (n : ℕ) (buffer : List ℕ) (size : ℕ) → (decompiled (bytes_of (as_records (sends n))) buffer).answer ≡ Ok size
    → let shown = take size (decompiled (bytes_of (as_records (sends n))) buffer).buffer in (refusal_in (table_of (of_user d) shown) ≡ 0) × (meaning_of d shown ≡ sent_items n)
later-many d n buffer size e = let w = later-writer d (sends n) buffer size (sends-kept n) e in (w.0, w.1 ∙ sends_items n)

-- ---- records-joined: n entries in front of a bad record, which is the n + 1st

items-proper : (n : ℕ) → (are_items (sent_items n) ≡ true) × Sendable (sent_items n)
unfolding are_items coding
items-proper zero = (refl, tt)
items-proper (suc n) = let later = items-proper n in (later.0, (omega arith, later.1))

pub joined-many : (n : ℕ) → (decoded_items (decode (records_of (sent_items n) ++ (5 ∷ []))) ≡ sent_items n ++ []) × (record_fault (records_of (sent_items n) ++ (5 ∷ [])) ≡ length (sent_items n) + 1)
joined-many n =
    let p = items-proper n in
    let j = records-joined (sent_items n) (5 ∷ []) p.0 p.1 in
    (j.0 ∙ ap (λ (is : List Item). sent_items n ++ is) cut-alone.1, j.2 ∙ rw cut-alone.0 refl)
