-- Laws of a field's text as the functions write it: step by step, and value by value.
-- Assumes nothing.
use mathlib.Core.Path.{◌≡◌, refl, sym, ap, ◌∙◌}
use mathlib.Core.Bool.{Bool, true, false, cond, true≢false}
use mathlib.Core.List.{List, [], ◌∷◌, ◌++◌, append-nil, append_assoc}
use Prim.Native.Nat.{ℕ, zero, suc, ◌+◌, ◌-◌, ◌≤◌, ◌<◌}
use native.Mathlib.Nat.{mod_self, lt_of_not-le}
use native.Mathlib.Decide.{dec_le}
use native.Mathlib.Numerals.{add-one}
use native.Mathlib.Omega.{arith}
use lib.Dec.{ltb}
use lib.ListN.{length}
use borrow.Author.Tests.{le-leb, eq-eqb, ne_eqb, ltb-false}
use Rattle.octets.specs.Digits.{number_text}
use Rattle.octets.specs.Clipped.{last_place, Wrote}
use Rattle.octets.specs.Sets.{has_bit, from_on}
use Rattle.octets.specs.Search.{from}
use Rattle.octets.proofs.Search.{from-least, from_past}
use Rattle.octets.proofs.Written.{wrote_none, wrote-next}
use Rattle.field.specs.declared.Limits.{Limits}
use Rattle.field.specs.Values.{values_of, bit_of}
use Rattle.field.specs.Members.{is_in, is_step}
use Rattle.field.specs.Written.{star_set, gives, step_of, star_text, having, members, after_commas, list_text, field_text}
use Rattle.field.specs.Inner.{InWord, list_rest, member_text}
use Rattle.field.proofs.Members.{steps-members, map-in, including-has}

-- ---- a step

bit_le : (l : Limits) → l.first ≤ l.bits → (v : ℕ) → bit_of l v ≤ v
unfolding bit_of
bit_le l h v = go (ltb v l.bits) refl
  where
    go : (t : Bool) → ltb v l.bits ≡ t → cond t v (l.first + (v - l.bits)) ≤ v
    go true e = omega arith
    go false e = omega (arith, ltb-false v l.bits e)

module _ (l : Limits) (w : InWord l) (n : ℕ) (some : 0 < n) where
  -- its second value is in its set
  second-in : l.first + n ≤ l.last → has_bit (star_set l n) (bit_of l (l.first + n)) ≡ true
  unfolding star_set is_step
  second-in h =
      let e : l.first + n - l.first ≡ n = omega arith in
      let i : is_in (l.first + n) (values_of l.first l.last n) ≡ true =
      steps-members l.first l.last n (l.first + n) w.0 some
      ∙ rw (le-leb l.first (l.first + n) (omega arith), le-leb (l.first + n) l.last h, e, mod_self n) in
      including-has (bit_of l (l.first + n)) (omega (arith, bit_le l w.2 (l.first + n), w.1)) l 0 (values_of l.first l.last n)
      ∙ rw (map-in (bit_of l) (l.first + n) (values_of l.first l.last n) i)

  -- so a set without it isn't given
  pub second-missing : (set : ℕ) → l.first + n ≤ l.last → has_bit set (bit_of l (l.first + n)) ≡ false → gives l set n ≡ false
  unfolding gives
  second-missing set h e =
      ne_eqb (star_set l n) set (λ q. true≢false (sym (second-in h) ∙ ap (λ (x : ℕ). has_bit x (bit_of l (l.first + n))) q ∙ e))

pub star-one : (n : ℕ) → n ≡ 1 → star_text n ≡ 42 ∷ []
unfolding star_text
star-one n e = rw (eq-eqb n 1 e)

pub star-more : (n : ℕ) → (n ≡ 1 → ⊥) → star_text n ≡ 42 ∷ 47 ∷ number_text n
unfolding star_text
star-more n e = rw (ne_eqb n 1 e)

-- ---- a value of a list

pub member-first : (v : ℕ) → member_text true v ≡ number_text v
unfolding member_text list_rest list_text after_commas
member-first v = append-nil (number_text v)

pub member-later : (v : ℕ) → member_text false v ≡ 44 ∷ number_text v
unfolding member_text list_rest after_commas
member-later v = ap (λ (s : List ℕ). 44 ∷ s) (append-nil (number_text v))

-- ---- from one value to the next

from_next : (v n : ℕ) → v < n → from_on v (n - v) ≡ v ∷ from_on (v + 1) (n - (v + 1))
unfolding from_on
from_next v n h = let e : n - v ≡ suc (n - (v + 1)) = omega arith in rw (e, add-one v)

-- what is left of the values below n, from v on
abbrev pub left : Bool → ℕ → ℕ → ℕ → List ℕ
left first set n v = list_rest first (having set (from_on v (n - v)))

module _ (set n : ℕ) where
  pub left-ends : (v : ℕ) (first : Bool) → n ≤ v → left first set n v ≡ []
  unfolding list_rest having from_on list_text after_commas
  left-ends v true h = let e : n - v ≡ 0 = omega arith in rw e
  left-ends v false h = let e : n - v ≡ 0 = omega arith in rw e

  -- a value of the set
  pub left-member : (v : ℕ) (first : Bool) → v < n → has_bit set v ≡ true → left first set n v ≡ member_text first v ++ left false set n (v + 1)
  unfolding list_rest having list_text after_commas
  left-member v true h e = rw (from_next v n h, e, member-first v)
  left-member v false h e = rw (from_next v n h, e, member-later v)

  left-skip : (v : ℕ) (first : Bool) → v < n → has_bit set v ≡ false → left first set n v ≡ left first set n (v + 1)
  unfolding having
  left-skip v first h e = rw (from_next v n h, e)

  -- those that aren't in it are skipped
  skip_all : (d v : ℕ) (first : Bool) → v + d ≤ n → ((k : ℕ) → v ≤ k → k < v + d → has_bit set k ≡ false) → left first set n v ≡ left first set n (v + d)
  skip_all zero v first h none = let e : v + 0 ≡ v = omega arith in rw e
  skip_all (suc d) v first h none =
      let e : v + 1 + d ≡ v + suc d = omega arith in
      left-skip v first (omega arith) (none v (omega arith) (omega arith))
      ∙ skip_all d (v + 1) first (omega arith) (λ k low high. none k (omega arith) (omega arith))
      ∙ rw e

  pub left-from : (v : ℕ) (first : Bool) → left first set n v ≡ left first set n (from (has_bit set) n v)
  left-from v first = elim (dec_le v n) [ yes h ↦ inside h | no h ↦ (let e = from_past (has_bit set) n v (omega (arith, lt_of_not-le h)) in rw (← e)) ]
    where
      inside : v ≤ n → left first set n v ≡ left first set n (from (has_bit set) n v)
      inside h =
          let l = from-least (has_bit set) n v h in
          let e : v + (from (has_bit set) n v - v) ≡ from (has_bit set) n v = omega (arith, l.low) in
          skip_all (from (has_bit set) n v - v) v first (omega (arith, e, l.high)) (λ k low high. l.none k low (omega (arith, e, high))) ∙ rw e

  -- and the value that comes next is one
  pub from-has : (v : ℕ) → from (has_bit set) n v < n → has_bit set (from (has_bit set) n v) ≡ true
  from-has v h = elim (dec_le v n) [ yes k ↦ (from-least (has_bit set) n v k).passes h | no k ↦ absurd (omega (arith, h, from_past (has_bit set) n v (omega (arith, lt_of_not-le k)), lt_of_not-le k)) ]

-- ---- a whole list

module _ (l : Limits) (set : ℕ) where
  pub whole : {v : ℕ} → v ≡ from (has_bit set) l.bits l.first → list_text (members l set) ≡ left true set l.bits v
  unfolding members list_rest
  whole e = left-from set l.bits l.first true ∙ rw (← e)

-- the values from `from` up to v are written
pub record Listing (set n from start : ℕ) (before : List ℕ) (v : ℕ) (first : Bool) (at : ℕ) (now : List ℕ) : Type 0 where
  pub text : List ℕ
  pub put : Wrote start text before at now
  pub rest : text ++ left first set n v ≡ left true set n from

module _ (set n low start : ℕ) (before : List ℕ) where
  pub listing-starts : start ≤ last_place → length before ≤ last_place → Listing set n low start before low true start before
  listing-starts h k = record { text = []; put = wrote_none start before h k; rest = refl }

  module _ (v : ℕ) (first : Bool) (at : ℕ) (now : List ℕ) (so : Listing set n low start before v first at now) where
    pub listing-next : {at' later : ℕ} {now' : List ℕ} → v < n → has_bit set v ≡ true → later ≡ from (has_bit set) n (v + 1) → Wrote at (member_text first v) now at' now'
        → Listing set n low start before later false at' now'
    listing-next h has e w =
        record {
          text = so.text ++ member_text first v;
          put = wrote-next so.put w;
          rest =
              rw e
              (append_assoc so.text (member_text first v) _
              ∙ ap (λ (s : List ℕ). so.text ++ (member_text first v ++ s)) (sym (left-from set n (v + 1) false))
              ∙ ap (λ (s : List ℕ). so.text ++ s) (sym (left-member set n v first h has))
              ∙ so.rest);
        }

    pub listing-ends : n ≤ v → Wrote start (left true set n low) before at now
    listing-ends h =
        let all : so.text ≡ left true set n low =
        sym (append-nil so.text) ∙ ap (λ (s : List ℕ). so.text ++ s) (sym (left-ends set n v first h)) ∙ so.rest in
        rw all at so.put

-- ---- either

module _ (l : Limits) (set : ℕ) (star : Bool) where
  pub field-starred : star ≡ true → field_text l set star ≡ star_text (step_of l set)
  unfolding field_text
  field-starred e = rw e

  pub field-listed : star ≡ false → field_text l set star ≡ list_text (members l set)
  unfolding field_text
  field-listed e = rw e
