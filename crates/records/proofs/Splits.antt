-- Laws of bytes as records: a record at the front is read from it, and what stands behind it is read as before.
-- Assumes nothing.
use mathlib.Core.Path.{◌≡◌, refl, sym, ap, ◌∙◌}
use mathlib.Core.Bool.{true, false, cond}
use mathlib.Core.List.{List, [], ◌∷◌, ◌++◌, append_assoc}
use Prim.Native.Nat.{ℕ, zero, suc, ◌+◌, ◌≤◌, ◌<◌}
use native.Mathlib.Omega.{arith}
use lib.ListN.{length, drop, length-append, length-drop}
use borrow.Author.Tests.{le-ltb, ne_eqb}
use Rattle.octets.specs.Runs.{between}
use Rattle.octets.specs.LittleEndian.{little_endian, width}
use Rattle.octets.proofs.Places.{Stands, between-here, drop_past}
use Rattle.octets.proofs.LittleEndian.{length-little_endian, number-back}
use Rattle.records.specs.Formats.{record_of}
use Rattle.records.specs.Readings.{Records, done, cut, next, number_at, length_at, is_cut, records_in, split}
use Rattle.records.specs.Writers.{longest_body}

-- ---- a number at a place

module _ {s : List ℕ} {at : ℕ} (size n : ℕ) {rest : List ℕ} (here : Stands s at (little_endian size n) rest) where
  pub number-here : n < width size → number_at s at size ≡ n
  unfolding number_at
  number-here h =
      let e : at + size ≡ at + length (little_endian size n) = ap (λ (k : ℕ). at + k) (sym (length-little_endian size n)) in
      rw (e, between-here here) (number-back size n h)

  pub number_past : drop (at + size) s ≡ rest
  number_past =
      ap (λ (k : ℕ). drop (at + k) s) (sym (length-little_endian size n)) ∙ drop_past here

-- ---- more than enough records to read are as good as enough

pub enough : (a b : ℕ) (s : List ℕ) → length s ≤ a → length s ≤ b → records_in a s ≡ records_in b s
unfolding records_in
enough zero zero s h k = refl
enough zero (suc b) [] h k = refl
enough zero (suc b) (x ∷ s) h k = absurd (omega arith)
enough (suc a) zero [] h k = refl
enough (suc a) zero (x ∷ s) h k = absurd (omega arith)
enough (suc a) (suc b) s h k =
    rw (enough a b (drop (2 + length_at s) s) (omega (arith, length-drop (2 + length_at s) s)) (omega (arith, length-drop (2 + length_at s) s)))

-- ---- the record at the front

-- so many bytes say
abbrev pub framed : List ℕ → Records → Records
framed s later = cond (is_cut s) cut (next (number_at s 2 2) (between s 4 (2 + length_at s)) later)

pub split-none : split [] ≡ done
unfolding split records_in
split-none = refl

pub split-some : (s : List ℕ) → 0 < length s → split s ≡ framed s (split (drop (2 + length_at s) s))
unfolding split records_in
split-some [] h = absurd (omega arith)
split-some (x ∷ s) h =
    let later = drop (2 + length_at (x ∷ s)) (x ∷ s) in
    rw (
      ne_eqb (length (x ∷ s)) 0 (λ e. omega (arith, e)),
      enough (length s) (length later) later (omega (arith, length-drop (2 + length_at (x ∷ s)) (x ∷ s))) (omega arith),
    )

pub split-cut : (s : List ℕ) → 0 < length s → is_cut s ≡ true → split s ≡ cut
split-cut s h e = split-some s h ∙ rw e

pub split-next : (s : List ℕ) → 0 < length s → is_cut s ≡ false
    → split s ≡ next (number_at s 2 2) (between s 4 (2 + length_at s)) (split (drop (2 + length_at s) s))
split-next s h e = split-some s h ∙ rw e

module _ (kind : ℕ) (body rest : List ℕ) (small : kind < 65536) (short : length body ≤ longest_body) where
  whole : List ℕ
  whole = record_of kind body ++ rest

  at-0 : Stands whole 0 (little_endian 2 (2 + length body)) (little_endian 2 kind ++ (body ++ rest))
  unfolding whole record_of
  at-0 =
      record {
        is =
            append_assoc (little_endian 2 (2 + length body)) (little_endian 2 kind ++ body) rest
            ∙ ap (λ (t : List ℕ). little_endian 2 (2 + length body) ++ t) (append_assoc (little_endian 2 kind) body rest);
      }

  size : length_at whole ≡ 2 + length body
  size = number-here 2 (2 + length body) at-0 (omega arith)

  at-2 : Stands whole 2 (little_endian 2 kind) (body ++ rest)
  at-2 = record { is = number_past 2 (2 + length body) at-0 }

  at-4 : Stands whole 4 body rest
  at-4 = record { is = number_past 2 kind at-2 }

  length_whole : length whole ≡ 4 + length body + length rest
  unfolding whole record_of
  length_whole =
      simp (length-append, length-little_endian) (omega arith)

  not-cut : is_cut whole ≡ false
  unfolding is_cut
  not-cut =
      rw (
        size,
        le-ltb (length whole) 2 (omega (arith, length_whole)),
        le-ltb (2 + length body) 2 (omega arith),
        le-ltb (length whole) (2 + (2 + length body)) (omega (arith, length_whole)),
      )

  pub split-record : split (record_of kind body ++ rest) ≡ next kind body (split rest)
  unfolding whole
  split-record =
      let e : 2 + (2 + length body) ≡ 4 + length body = omega arith in
      split-next whole (omega (arith, length_whole)) not-cut
      ∙ rw (size, number-here 2 kind at-2 (omega arith), e, between-here at-4, drop_past at-4)
