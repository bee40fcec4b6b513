-- The theorems of fields, each used where it says most: every field, the second dialect, Sunday, the last step; both directions. A theorem that
-- said less would not give these. And what doesn't meet the words that they are made of.
-- Assumes nothing.
use Rattle.refusal.specs.Numbers.{number_of}
use Rattle.refusal.specs.declared.Refusal.TheVariants.{TooFewFields, Malformed, OutOfLimits, Reversed, NoCommand}
use mathlib.Core.Path.{◌≡◌, refl, sym, ap, ◌∙◌}
use mathlib.Core.Bool.{Bool, true, false, true≢false}
use mathlib.Core.Logic.{⊎_elim}
use mathlib.Core.List.{List, [], ◌∷◌, ◌++◌}
use Prim.Native.Nat.{ℕ, zero, suc, ◌+◌, ◌≤◌, ◌<◌}
use lib.Bits.{or_self}
use lib.ListN.{length}
use native.Mathlib.Omega.{arith}
use Rattle.octets.specs.Texts.{text}
use Rattle.octets.specs.Sets.{has_bit}
use Rattle.field.specs.declared.Dialect.{Dialect}
use Rattle.field.specs.declared.Limits.{Limits}
use Rattle.field.specs.declared.Dialect.TheVariants.{Rising, Wrapping}
use Rattle.field.specs.declared.Names.TheVariants as names
use Rattle.field.specs.Limits.{minute_limits, hour_limits, day_limits, month_limits, weekday_limits, in_dialect}
use Rattle.field.specs.Fields.{read_field}
use Rattle.field.specs.FirstDialect.{first_field}
use Rattle.field.specs.Parts.{split}
use Rattle.field.specs.Members.{is_in, is_in_range, element_bits, is_star}
use Rattle.field.specs.Written.{star_set, field_text, is_field}
use Rattle.field.specs.Computing.{writing}
use Rattle.field.proofs.UsualLimits.{bit-value}
use Rattle.field.proofs.Theorems.{Accepted, values-members, set-fits, Within, set-within, RefusedIn, field-wraps, Usual, minute-usual, hour-usual, day-usual, month-usual, weekday-usual, dialect-usual, Shortest, shortest-step, plain-star, field-proper, field_back, Plain, first-dialect-same, minute-plain, hour-plain, day-plain, month-plain, weekday-plain, FieldByte, Begins, is_malformed, field-joined, RisesBelow, EachBelow, form-in-both, same-in-both, minute-sunday, hour-sunday, day-sunday, month-sunday, weekday-sunday}
use Rattle.field.specs.Elements.{from_to}
use Rattle.field.specs.Judgement.{refuses, means}

-- ---- the second dialect, in each field

-- field-wraps: no 7
pub wraps-used : (column : ℕ) (s : List ℕ) {at : ℕ}
    → (read_field (in_dialect Wrapping minute_limits) column s ≡ refuses Reversed at → ⊥)
    × (read_field (in_dialect Wrapping hour_limits) column s ≡ refuses Reversed at → ⊥)
    × (read_field (in_dialect Wrapping day_limits) column s ≡ refuses Reversed at → ⊥)
    × (read_field (in_dialect Wrapping month_limits) column s ≡ refuses Reversed at → ⊥)
    × (read_field (in_dialect Wrapping weekday_limits) column s ≡ refuses Reversed at → ⊥)
unfolding in_dialect
wraps-used column s = (
  field-wraps (in_dialect Wrapping minute_limits) refl column s,
  field-wraps (in_dialect Wrapping hour_limits) refl column s,
  field-wraps (in_dialect Wrapping day_limits) refl column s,
  field-wraps (in_dialect Wrapping month_limits) refl column s,
  field-wraps (in_dialect Wrapping weekday_limits) refl column s,
)

-- field-proper, field_back: what the second reads is written, and its text is read to the same in the first; any set and flag
pub back-used : (column : ℕ) (s : List ℕ) {set : ℕ} {star : Bool} → read_field (in_dialect Wrapping weekday_limits) column s ≡ means set star
    → read_field weekday_limits 1 (field_text weekday_limits set star) ≡ means set star
unfolding in_dialect
back-used column s {set} {star} e = field_back weekday_limits weekday-usual Rising 1 set star (field-proper weekday_limits weekday-usual Wrapping column s e)

-- first-dialect-same, in each field
pub first-used : (column : ℕ) (s : List ℕ)
    → (read_field (in_dialect Rising minute_limits) column s ≡ first_field minute_limits column s)
    × (read_field (in_dialect Rising hour_limits) column s ≡ first_field hour_limits column s)
    × (read_field (in_dialect Rising day_limits) column s ≡ first_field day_limits column s)
    × (read_field (in_dialect Rising month_limits) column s ≡ first_field month_limits column s)
    × (read_field (in_dialect Rising weekday_limits) column s ≡ first_field weekday_limits column s)
first-used column s = (
  first-dialect-same minute_limits minute-plain column s,
  first-dialect-same hour_limits hour-plain column s,
  first-dialect-same day_limits day-plain column s,
  first-dialect-same month_limits month-plain column s,
  first-dialect-same weekday_limits weekday-plain column s,
)

-- ---- sets

-- set-within, set-fits: Sunday is bit 0 in both dialects, so a weekday has no bit 7
pub sunday-used : (d : Dialect) (column : ℕ) (s : List ℕ) {set : ℕ} {star : Bool} → read_field (in_dialect d weekday_limits) column s ≡ means set star → set < 128
unfolding in_dialect
sunday-used Rising column s e = omega (arith, set-fits weekday_limits weekday-usual column s e)
sunday-used Wrapping column s e = omega (arith, set-fits (in_dialect Wrapping weekday_limits) (dialect-usual weekday_limits weekday-usual Wrapping) column s e)

-- set-within: no day 0, and no month 0
no_zero : (l : Limits) → Usual l → 1 ≤ l.first → (column : ℕ) (s : List ℕ) {set : ℕ} {star : Bool} → read_field l column s ≡ means set star → has_bit set 0 ≡ false
no_zero l u from column s {set} e = go (has_bit set 0) refl
  where
    go : (b : Bool) → has_bit set 0 ≡ b → b ≡ false
    go true p =
        let w = set-within l u 0 (omega arith) column s e p in
        let b = bit-value l w.value w.from (omega (arith, w.to, u.enough, u.some)) in
        absurd (omega (arith, b.0, w.bit))
    go false p = refl

pub zero-used : (column : ℕ) (s : List ℕ) {set : ℕ} {star : Bool}
    → (read_field day_limits column s ≡ means set star → has_bit set 0 ≡ false)
    × (read_field (in_dialect Wrapping day_limits) column s ≡ means set star → has_bit set 0 ≡ false)
    × (read_field month_limits column s ≡ means set star → has_bit set 0 ≡ false)
    × (read_field (in_dialect Wrapping month_limits) column s ≡ means set star → has_bit set 0 ≡ false)
unfolding in_dialect
zero-used column s = (
  (λ e. no_zero day_limits day-usual (omega arith) column s e),
  (λ e. no_zero (in_dialect Wrapping day_limits) (dialect-usual day_limits day-usual Wrapping) (omega arith) column s e),
  (λ e. no_zero month_limits month-usual (omega arith) column s e),
  (λ e. no_zero (in_dialect Wrapping month_limits) (dialect-usual month_limits month-usual Wrapping) (omega arith) column s e),
)

-- values-members: `23-0/9999` in the second dialect, for each hour
pub members-used : (v : ℕ) → v < 24
    → is_in v (element_bits (in_dialect Wrapping hour_limits) (from_to 23 0 9999)) ≡ is_in_range (in_dialect Wrapping hour_limits) 23 0 9999 v
unfolding in_dialect
members-used v h =
    values-members (in_dialect Wrapping hour_limits) (dialect-usual hour_limits hour-usual Wrapping)
    (record { from = omega arith; below = omega arith; above = omega arith; to = omega arith; steps = omega arith }) v (omega arith) h

-- shortest-step: no smaller step than 60, 24, 31, 12 and 7 gives the first value alone
pub steps-used :
    ((k : ℕ) → 1 ≤ k → k < 60 → star_set minute_limits k ≡ 1 → ⊥)
    × ((k : ℕ) → 1 ≤ k → k < 24 → star_set hour_limits k ≡ 1 → ⊥)
    × ((k : ℕ) → 1 ≤ k → k < 31 → star_set day_limits k ≡ 2 → ⊥)
    × ((k : ℕ) → 1 ≤ k → k < 12 → star_set month_limits k ≡ 2 → ⊥)
    × ((k : ℕ) → 1 ≤ k → k < 7 → star_set weekday_limits k ≡ 1 → ⊥)
unfolding writing
steps-used = (
  (shortest-step minute_limits minute-usual 1 refl).1.none,
  (shortest-step hour_limits hour-usual 1 refl).1.none,
  (shortest-step day_limits day-usual 2 refl).1.none,
  (shortest-step month_limits month-usual 2 refl).1.none,
  (shortest-step weekday_limits weekday-usual 1 refl).1.none,
)

every : star_set weekday_limits 1 ≡ 127
unfolding writing
every = refl

-- plain-star: a flagged weekday is `*` exactly if it has all seven
pub star-used : (set : ℕ) → is_field weekday_limits set true ≡ true
    → (127 ≡ set → field_text weekday_limits set true ≡ text "*") × (field_text weekday_limits set true ≡ text "*" → 127 ≡ set)
star-used set e = let s = plain-star weekday_limits weekday-usual set e in ((λ p. s.0 (every ∙ p)), (λ q. sym every ∙ s.1 q))

-- ---- fields of any length

-- a text so many times more, by commas
abbrev again : ℕ → List ℕ → List ℕ
again zero a = a
again (suc n) a = a ++ 44 ∷ again n a

again-star : (n : ℕ) (a : List ℕ) → is_star a ≡ false → is_star (again n a) ≡ false
unfolding is_star
again-star zero a h = h
again-star (suc n) [] h = refl
again-star (suc n) (x ∷ a) h = h

-- field-joined: a list of any number of elements that are accepted is accepted, and gives the same set; one that is refused is refused at the first
module _ (l : Limits) (a : List ℕ) (list : is_star a ≡ false) where
  again-read : {set : ℕ} → ((column : ℕ) → read_field l column a ≡ means set false) → (n column : ℕ) → read_field l column (again n a) ≡ means set false
  again-read e zero column = e column
  again-read {set} e (suc n) column =
      field-joined l column a (again n a) list (again-star n a list)
      ∙ rw (e column, again-read e n (column + length a + 1)) (ap (λ (x : ℕ). means x false) (or_self set))

  again-malformed : ((column : ℕ) → read_field l column a ≡ refuses Malformed column) → (n column : ℕ) → read_field l column (again n a) ≡ refuses Malformed column
  unfolding number_of
  again-malformed e zero column = e column
  again-malformed e (suc n) column = field-joined l column a (again n a) list (again-star n a list) ∙ rw (e column) refl

-- in each dialect: hours over midnight, and weekdays by names
pub again-used : (n column : ℕ)
    → (read_field (in_dialect Wrapping hour_limits) column (again n (text "22-1")) ≡ means 12582915 false)
    × (read_field weekday_limits column (again n (text "Fri-sUN")) ≡ means 97 false)
    × (read_field (in_dialect Wrapping weekday_limits) column (again n (text "Fri-sUN")) ≡ means 97 false)
    × (read_field (in_dialect Wrapping minute_limits) column (again n (text "+")) ≡ refuses Malformed column)
unfolding writing is_star
again-used n column = (
  again-read (in_dialect Wrapping hour_limits) (text "22-1") refl (λ c. refl) n column,
  again-read weekday_limits (text "Fri-sUN") refl (λ c. refl) n column,
  again-read (in_dialect Wrapping weekday_limits) (text "Fri-sUN") refl (λ c. refl) n column,
  again-malformed (in_dialect Wrapping minute_limits) (text "+") refl (λ c. refl) n column,
)

-- the first refusal stands: after any number of good elements, at its column
pub refused-used : (column : ℕ) (a : List ℕ) {set : ℕ} → is_star a ≡ false → read_field (in_dialect Wrapping hour_limits) column a ≡ means set false
    → read_field (in_dialect Wrapping hour_limits) column (a ++ 44 ∷ text "24,1/2") ≡ refuses Malformed column
unfolding writing is_star number_of
refused-used column a h e = field-joined (in_dialect Wrapping hour_limits) column a (text "24,1/2") h refl ∙ rw e refl

late : (is_star (text "24,1-2/0") ≡ false) × ((c : ℕ) → read_field (in_dialect Wrapping hour_limits) c (text "24,1-2/0") ≡ refuses OutOfLimits c)
unfolding writing is_star
late = (refl, λ c. refl)

pub sixth-used : (column : ℕ) (a : List ℕ) {set : ℕ} → is_star a ≡ false → read_field (in_dialect Wrapping hour_limits) column a ≡ means set false
    → read_field (in_dialect Wrapping hour_limits) column (a ++ 44 ∷ text "24,1-2/0") ≡ refuses OutOfLimits (column + length a + 1)
unfolding number_of
sixth-used column a h e =
    field-joined (in_dialect Wrapping hour_limits) column a (text "24,1-2/0") h late.0 ∙ rw (e, late.1 (column + length a + 1)) refl

-- same-in-both: any number of elements, the last value of the five fields, and a star with any step; form-in-both: any bytes
star-none : (s : List ℕ) → is_star (42 ∷ s) ≡ false → ⊥
unfolding is_star
star-none s e = true≢false e

pub both_used : (column : ℕ) (s : List ℕ)
    → (read_field (in_dialect Wrapping weekday_limits) column (42 ∷ s) ≡ read_field weekday_limits column (42 ∷ s))
    × (is_malformed (read_field (in_dialect Wrapping weekday_limits) column s) ≡ is_malformed (read_field weekday_limits column s))
    × (EachBelow minute_limits (split 44 s) → read_field (in_dialect Wrapping minute_limits) column s ≡ read_field minute_limits column s)
    × (EachBelow hour_limits (split 44 s) → read_field (in_dialect Wrapping hour_limits) column s ≡ read_field hour_limits column s)
    × (EachBelow day_limits (split 44 s) → read_field (in_dialect Wrapping day_limits) column s ≡ read_field day_limits column s)
    × (EachBelow month_limits (split 44 s) → read_field (in_dialect Wrapping month_limits) column s ≡ read_field month_limits column s)
    × (EachBelow weekday_limits (split 44 s) → read_field (in_dialect Wrapping weekday_limits) column s ≡ read_field weekday_limits column s)
both_used column s = (
  same-in-both weekday_limits weekday-usual refl weekday-sunday column (42 ∷ s) (λ e. absurd (star-none s e)),
  form-in-both weekday_limits refl column s,
  (λ h. same-in-both minute_limits minute-usual refl minute-sunday column s (λ e. h)),
  (λ h. same-in-both hour_limits hour-usual refl hour-sunday column s (λ e. h)),
  (λ h. same-in-both day_limits day-usual refl day-sunday column s (λ e. h)),
  (λ h. same-in-both month_limits month-usual refl month-sunday column s (λ e. h)),
  (λ h. same-in-both weekday_limits weekday-usual refl weekday-sunday column s (λ e. h)),
)

-- what rises and stays below: the last value; not a range that falls, nor 7
below-is : EachBelow hour_limits (split 44 (text "0-23/9,23")) × (RisesBelow hour_limits (from_to 23 0 1) → ⊥) × (RisesBelow weekday_limits (from_to 5 7 1) → ⊥) × (RisesBelow hour_limits (from_to 24 24 1) → ⊥)
unfolding writing
below-is = (
  ((omega arith, omega arith), ((omega arith, omega arith), tt)),
  (λ r. omega (arith, r.0)),
  (λ r. omega (arith, r.1)),
  (λ r. omega (arith, r.1)),
)

-- ---- what doesn't meet the words of these

-- a begin or an end outside the limits, and step 0
not-accepted :
    (Accepted day_limits 0 1 1 → ⊥)
    × (Accepted hour_limits 24 1 1 → ⊥)
    × (Accepted day_limits 1 0 1 → ⊥)
    × (Accepted hour_limits 1 24 1 → ⊥)
    × (Accepted hour_limits 1 2 0 → ⊥)
not-accepted = ((λ a. omega (arith, a.from)), (λ a. omega (arith, a.below)), (λ a. omega (arith, a.above)), (λ a. omega (arith, a.to)), (λ a. omega (arith, a.steps)))

-- bits past the last
not_within : (Within minute_limits 60 → ⊥) × (Within weekday_limits 7 → ⊥)
not_within = (
  (λ w. let b = bit-value minute_limits w.value w.from (omega (arith, w.to)) in omega (arith, b.1, w.bit)),
  (λ w. let b = bit-value weekday_limits w.value w.from (omega (arith, w.to)) in omega (arith, b.1, w.bit)),
)

-- a refusal below the first number and above the last, past the last column, and 7 where ranges wrap
not-refused :
    (RefusedIn 5 8 (Unit {0}) 10 TooFewFields 1 → ⊥)
    × (RefusedIn 5 8 (Unit {0}) 10 NoCommand 1 → ⊥)
    × (RefusedIn 5 8 (Unit {0}) 10 Malformed 11 → ⊥)
    × (RefusedIn 5 8 ⊥ 10 Reversed 1 → ⊥)
unfolding number_of
not-refused = ((λ r. omega (arith, r.from)), (λ r. omega (arith, r.to)), (λ r. omega (arith, r.inside)), (λ r. r.rising refl))

-- a step that gives another set, and one that isn't the least
not-shortest : (Shortest weekday_limits 1 6 → ⊥) × (Shortest weekday_limits 1 8 → ⊥) × (Shortest weekday_limits 1 0 → ⊥)
unfolding writing
not-shortest = ((λ h. omega (arith, h.same)), (λ h. h.none 7 (omega arith) (omega arith) refl), (λ h. omega (arith, h.some)))

-- limits past a word, and ranges that wrap in the first dialect
not-usual : Usual (record { first = 0; last = 64; bits = 64; names = names.None; wraps = false }) → ⊥
not-usual u = omega (arith, u.word)

not_plain : Plain (in_dialect Wrapping hour_limits) → ⊥
unfolding in_dialect
not_plain p = true≢false p.rises

-- the bytes of a field's text, and its first
not-bytes : (FieldByte 41 → ⊥) × (FieldByte 58 → ⊥) × (Begins [] → ⊥) × (Begins (text "-1") → ⊥) × (Begins (text ":") → ⊥)
not-bytes = (
  (λ h. omega (arith, h.0)),
  (λ h. omega (arith, h.1)),
  (λ h. h),
  (λ h. ⊎_elim (λ e. omega (arith, e)) (λ d. omega (arith, d.0)) h),
  (λ h. ⊎_elim (λ e. omega (arith, e)) (λ d. omega (arith, d.1)) h),
)
