-- The number of the first bad record: 0 exactly where none is bad; taking out records of skipped kinds lowers it by as many as came before it.
-- Assumes nothing.
use mathlib.Core.Path.{◌≡◌, refl}
use mathlib.Core.Bool.{Bool, true, false, cond}
use mathlib.Core.List.{List, [], ◌∷◌, ◌++◌, append_assoc}
use Prim.Native.Nat.{ℕ, zero, suc, ◌+◌, ◌-◌, ◌≤◌}
use native.Mathlib.Omega.{arith}
use lib.ListN.{take}
use lib.Dec.{leb}
use Rattle.records.specs.Formats.{record_of}
use Rattle.records.specs.Readings.{Records, Content, skipped, refused, means, content_of, skipped_from, is_skipped, split, Decoded, after_record, decode_from, decode, decoded_fault}
use Rattle.records.specs.Readings as said
use Rattle.records.specs.Calls.{record_fault}
use Rattle.records.specs.Computing.{coding}
use Rattle.records.specs.Writers.{Record, Framed, All, bytes_of, kept, skipped_in, NotBad, NoneBad}
use Rattle.records.proofs.Decoding.{decoded-record, skipped-content}

-- ---- none is bad

none-bad : (n : ℕ) (rs : Records) → 1 ≤ n → (decoded_fault (decode_from n rs) ≡ 0 → NoneBad rs) × (NoneBad rs → decoded_fault (decode_from n rs) ≡ 0)
unfolding decode_from decoded_fault after_record
none-bad n said.Records.done h = (λ e. tt, λ b. refl)
none-bad n said.cut h = (λ e. omega arith, λ b. absurd b)
none-bad n (said.next kind body later) h = go (content_of kind body) (none-bad (n + 1) later (omega arith))
  where
    go : (c : Content) → (decoded_fault (decode_from (n + 1) later) ≡ 0 → NoneBad later) × (NoneBad later → decoded_fault (decode_from (n + 1) later) ≡ 0)
        → (decoded_fault (after_record n c (decode_from (n + 1) later)) ≡ 0 → NotBad c × NoneBad later)
        × (NotBad c × NoneBad later → decoded_fault (after_record n c (decode_from (n + 1) later)) ≡ 0)
    go skipped more = (λ e. (tt, more.0 e), λ b. more.1 b.1)
    go (refused refusal) more = (λ e. absurd (omega arith), λ b. absurd b.0)
    go (means i) more = (λ e. (tt, more.0 e), λ b. more.1 b.1)

pub fault-none : (s : List ℕ) → (record_fault s ≡ 0 → NoneBad (split s)) × (NoneBad (split s) → record_fault s ≡ 0)
unfolding record_fault decode
fault-none s = none-bad 1 (split s) (omega arith)

-- ---- records of skipped kinds

-- Records numbered from m, and from n where the skipped ones are taken out: the fault's numbers a and b.
data Lowered (m n : ℕ) (rs : List Record) (a b : ℕ) : Type 0 where
  none : a ≡ 0 → b ≡ 0 → Lowered m n rs a b
  lower : m ≤ a → b + m + skipped_in (take (a - m) rs) ≡ a + n → Lowered m n rs a b

skipped-none : (k : ℕ) → skipped_in (take k []) ≡ 0
unfolding skipped_in
skipped-none zero = refl
skipped-none (suc k) = refl

-- a record more in front: of both, or of the first list alone
module _ (m n : ℕ) (r : Record) (rs : List Record) (a b : ℕ) where
  past-kept : leb skipped_from r.kind ≡ false → Lowered (m + 1) (n + 1) rs a b → Lowered m n (r ∷ rs) a b
  unfolding skipped_in
  past-kept k (none p q) = none p q
  past-kept k (lower h e) = lower (omega arith) (let s : a - m ≡ suc (a - (m + 1)) = omega arith in rw (s, k) (omega (arith, e)))

  past-skipped : leb skipped_from r.kind ≡ true → Lowered (m + 1) n rs a b → Lowered m n (r ∷ rs) a b
  unfolding skipped_in
  past-skipped k (none p q) = none p q
  past-skipped k (lower h e) = lower (omega arith) (let s : a - m ≡ suc (a - (m + 1)) = omega arith in rw (s, k) (omega (arith, e)))

-- here is the fault
lower-here : (m n : ℕ) (rs : List Record) → Lowered m n rs m n
unfolding skipped_in
lower-here m n rs = lower (omega arith) (let z : m - m ≡ 0 = omega arith in rw z (omega arith))

lower-tail : (m n : ℕ) (rs : Records) → Lowered m n [] (decoded_fault (decode_from m rs)) (decoded_fault (decode_from n rs))
unfolding decode_from decoded_fault after_record
lower-tail m n said.Records.done = none refl refl
lower-tail m n said.cut = lower-here m n []
lower-tail m n (said.next kind body later) = go (content_of kind body) (next (lower-tail (m + 1) (n + 1) later))
  where
    next : {a b : ℕ} → Lowered (m + 1) (n + 1) [] a b → Lowered m n [] a b
    next (none p q) = none p q
    next {a} (lower h e) = lower (omega arith) (omega (arith, e, skipped-none (a - (m + 1)), skipped-none (a - m)))

    go : (c : Content) → Lowered m n [] (decoded_fault (decode_from (m + 1) later)) (decoded_fault (decode_from (n + 1) later))
        → Lowered m n [] (decoded_fault (after_record m c (decode_from (m + 1) later))) (decoded_fault (after_record n c (decode_from (n + 1) later)))
    go skipped more = more
    go (refused refusal) more = lower-here m n []
    go (means i) more = more

lowered : (m n : ℕ) (rs : List Record) (tail : List ℕ) → All Framed rs
    → Lowered m n rs (decoded_fault (decode_from m (split (bytes_of rs ++ tail)))) (decoded_fault (decode_from n (split (bytes_of (kept rs) ++ tail))))
unfolding bytes_of kept after_record decoded_fault is_skipped
lowered m n [] tail h = lower-tail m n (split tail)
lowered m n (r ∷ rs) tail h =
    rw (append_assoc (record_of r.kind r.body) (bytes_of rs) tail, decoded-record m r (bytes_of rs ++ tail) h.0)
    (go (is_skipped r.kind) refl (λ k. lowered (m + 1) k rs tail h.1))
  where
    left : Decoded
    left = decode_from (m + 1) (split (bytes_of rs ++ tail))

    right : ℕ → Decoded
    right k = decode_from k (split (bytes_of (kept rs) ++ tail))

    judged : (c : Content) → leb skipped_from r.kind ≡ false → Lowered (m + 1) (n + 1) rs (decoded_fault left) (decoded_fault (right (n + 1)))
        → Lowered m n (r ∷ rs) (decoded_fault (after_record m c left)) (decoded_fault (after_record n c (right (n + 1))))
    judged skipped k more = past-kept m n r rs _ _ k more
    judged (refused refusal) k more = lower-here m n (r ∷ rs)
    judged (means i) k more = past-kept m n r rs _ _ k more

    go : (t : Bool) → is_skipped r.kind ≡ t → ((k : ℕ) → Lowered (m + 1) k rs (decoded_fault left) (decoded_fault (right k)))
        → Lowered m n (r ∷ rs) (decoded_fault (after_record m (content_of r.kind r.body) left))
        (decoded_fault (decode_from n (split (bytes_of (cond t (kept rs) (r ∷ kept rs)) ++ tail))))
    go true e more = rw (skipped-content r.kind r.body e) (past-skipped m n r rs _ _ e (more n))
    go false e more =
        rw (append_assoc (record_of r.kind r.body) (bytes_of (kept rs)) tail, decoded-record n r (bytes_of (kept rs) ++ tail) h.0)
        (judged (content_of r.kind r.body) e (more (n + 1)))

-- the number of the first bad record is lower by as many as were taken out before it
pub fault-lowered : (rs : List Record) (tail : List ℕ) → All Framed rs
    → let fault = record_fault (bytes_of rs ++ tail) in
    record_fault (bytes_of (kept rs) ++ tail) + skipped_in (take (fault - 1) rs) ≡ fault
unfolding record_fault decode skipped_in
fault-lowered rs tail f = go (lowered 1 1 rs tail f)
  where
    go : {a b : ℕ} → Lowered 1 1 rs a b → b + skipped_in (take (a - 1) rs) ≡ a
    go (none p q) = rw (p, q)
    go (lower h e) = omega (arith, e)

-- used for two records of skipped kinds, the first and the last of those, before a record that is cut short: its number is 3, and 1 where they are taken out
abbrev two : List Record
two = record { kind = 32768; body = [] } ∷ record { kind = 65535; body = 7 ∷ [] } ∷ []

two-framed : All Framed two
two-framed = (record { kind = omega arith; body = omega arith }, (record { kind = omega arith; body = omega arith }, tt))

two-fault : (record_fault (bytes_of two ++ (5 ∷ [])) ≡ 3) × (skipped_in (take 2 two) ≡ 2)
unfolding coding bytes_of skipped_in
two-fault = (refl, refl)

pub lowered-two : record_fault (bytes_of (kept two) ++ (5 ∷ [])) ≡ 1
lowered-two = let e = rw (two-fault.0, two-fault.1) at (fault-lowered two (5 ∷ []) two-framed) in omega (arith, e)

-- a skipped record and a good one, `@reboot x`: none is bad; with one of kind 5, or a byte more, one is
abbrev mixed : List ℕ
mixed = 2 ∷ 0 ∷ 0 ∷ 128 ∷ 3 ∷ 0 ∷ 2 ∷ 0 ∷ 120 ∷ []

pub none-bad-mixed :
    NoneBad (split mixed)
    × (NoneBad (split (mixed ++ 2 ∷ 0 ∷ 5 ∷ 0 ∷ [])) → ⊥)
    × (NoneBad (split (mixed ++ 2 ∷ [])) → ⊥)
unfolding coding
none-bad-mixed = (
  (fault-none mixed).0 refl,
  (λ b. let e : record_fault (mixed ++ 2 ∷ 0 ∷ 5 ∷ 0 ∷ []) ≡ 0 = (fault-none (mixed ++ 2 ∷ 0 ∷ 5 ∷ 0 ∷ [])).1 b in omega (arith, e)),
  (λ b. let e : record_fault (mixed ++ 2 ∷ []) ≡ 0 = (fault-none (mixed ++ 2 ∷ [])).1 b in omega (arith, e)),
)
