-- With which refusals records are refused.
-- Assumes nothing.
use mathlib.Core.Bool.{Bool, true, false, cond, ◌&&◌, ◌||◌}
use mathlib.Core.List.{List, [], ◌∷◌}
use Prim.Native.Nat.{ℕ, ◌+◌, ◌≤◌}
use native.Mathlib.Omega.{arith}
use lib.Dec.{eqb}
use Rattle.refusal.specs.declared.Refusal.TheVariants.{UnknownKind, Meaningless}
use Rattle.refusal.specs.Numbers.{number_of}
use Rattle.normal.specs.Meanings.{Item, boot}
use Rattle.normal.specs.Proper.{is_item}
use Rattle.records.specs.Formats.{kind_of}
use Rattle.records.specs.Readings.{Records, Content, skipped, refused, means, meant, content_of, timed_in, setting_in, is_skipped, Decoded, after_record, decode_from}
use Rattle.records.specs.Readings as said

-- one record is refused with R23 or R24
abbrev SoundContent : Content → Type 0
SoundContent skipped = Unit {0}
SoundContent (refused refusal) = (23 ≤ number_of refusal) × (number_of refusal ≤ 24)
SoundContent (means i) = Unit {0}

meant-sound : (kind : ℕ) (is : List Item) → SoundContent (meant kind is)
unfolding meant number_of
meant-sound kind [] = (omega arith, omega arith)
meant-sound kind (i ∷ is) = go (eqb (kind_of i) kind && is_item i)
  where
    go : (t : Bool) → SoundContent (cond t (means i) (refused Meaningless))
    go true = tt
    go false = (omega arith, omega arith)

content-sound : (kind : ℕ) (body : List ℕ) → SoundContent (content_of kind body)
unfolding content_of number_of
content-sound kind body = go (is_skipped kind) (eqb kind 1) (eqb kind 2) (eqb kind 3 || eqb kind 4)
  where
    go : (a b c d : Bool)
        → SoundContent (cond a skipped (cond b (meant kind (timed_in body)) (cond c (meant kind (boot body ∷ [])) (cond d (meant kind (setting_in body)) (refused UnknownKind)))))
    go true b c d = tt
    go false true c d = meant-sound kind (timed_in body)
    go false false true d = meant-sound kind (boot body ∷ [])
    go false false false true = meant-sound kind (setting_in body)
    go false false false false = (omega arith, omega arith)

-- records are refused with R22 to R24, and a fault's record is no nearer than n
abbrev pub SoundDecoded : ℕ → Decoded → Type 0
SoundDecoded n said.Decoded.done = Unit {0}
SoundDecoded n (said.fault refusal k) = (22 ≤ number_of refusal) × (number_of refusal ≤ 24) × (n ≤ k)
SoundDecoded n (said.item i later) = SoundDecoded n later

nearer : (m n : ℕ) (x : Decoded) → m ≤ n → SoundDecoded n x → SoundDecoded m x
nearer m n said.Decoded.done h s = tt
nearer m n (said.fault number k) h s = (s.0, s.1, omega (arith, s.2))
nearer m n (said.item i later) h s = nearer m n later h s

pub decoded-sound : (n : ℕ) (rs : Records) → SoundDecoded n (decode_from n rs)
unfolding decode_from after_record number_of
decoded-sound n said.Records.done = tt
decoded-sound n said.cut = (omega arith, omega arith, omega arith)
decoded-sound n (said.next kind body later) = go (content_of kind body) (content-sound kind body) (nearer n (n + 1) (decode_from (n + 1) later) (omega arith) (decoded-sound (n + 1) later))
  where
    go : (c : Content) → SoundContent c → SoundDecoded n (decode_from (n + 1) later) → SoundDecoded n (after_record n c (decode_from (n + 1) later))
    go skipped s h = h
    go (refused number) s h = (omega (arith, s.0), s.1, omega arith)
    go (means i) s h = h
