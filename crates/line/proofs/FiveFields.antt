-- Five fields, wherever they are in a line and however long they and the blanks between them are: each is read by its own limits at its own column, the next one
-- begins after its blanks, and the first one from the left that isn't accepted refuses the line. A line that ends before the fifth is 4, where those before are accepted.
-- Assumes nothing.
use Rattle.std.specs.Prelude.{Ok, Err, Result}
use Rattle.refusal.specs.declared.Refusal.TheVariants.{TooFewFields}
use mathlib.Core.Path.{◌≡◌, refl, ap, ◌∙◌}
use mathlib.Core.Bool.{Bool, true}
use mathlib.Core.List.{List, [], ◌∷◌, ◌++◌}
use Prim.Native.Nat.{ℕ, ◌+◌, ◌≤◌, ◌<◌}
use native.Mathlib.Omega.{arith}
use lib.ListN.{length}
use borrow.Author.Tests.{le-leb}
use Rattle.octets.specs.declared.class.Class.TheVariants.{Blank, Solid}
use Rattle.octets.specs.Runs.{run, are_of}
use Rattle.octets.proofs.Places.{Stands}
use Rattle.field.specs.declared.Dialect.{Dialect}
use Rattle.field.specs.declared.Limits.{Limits}
use Rattle.field.specs.declared.Allowed.{Allowed}
use Rattle.field.specs.declared.Fault.{Fault}
use Rattle.field.specs.Limits.{in_dialect, minute_limits, hour_limits, day_limits, month_limits, weekday_limits}
use Rattle.field.specs.Fields.{read_field}
use Rattle.line.specs.declared.time.When.TheVariants.{Timed}
use Rattle.line.specs.declared.time.Time.{Time}
use Rattle.line.specs.declared.time.Field.{Field}
use Rattle.line.specs.Times.{time_of, answered, field_at, after, schedule_of, fields_at}
use Rattle.line.specs.Words.{word_of, after_word, word_at}
use Rattle.line.proofs.Spacing.{field-spaced, word-spaced}

-- ---- a field or a word at a place, and where the line goes on after its blanks

pub record Spaced (s : List ℕ) (at : ℕ) (f : List ℕ) (next : ℕ) : Type 0 where
  pub blanks : List ℕ
  pub rest : List ℕ
  pub here : Stands s at f (blanks ++ rest)
  pub some : 0 < length f
  pub solid : are_of Solid f ≡ true
  pub blank : are_of Blank blanks ≡ true
  pub ends : run Solid (blanks ++ rest) ≡ 0
  pub stops : run Blank rest ≡ 0
  pub goes_on : next ≡ at + length f + length blanks

module _ {s : List ℕ} where
  field-there : {at : ℕ} (f : List ℕ) {next : ℕ} → Spaced s at f next → (l : Limits) → field_at l s at ≡ answered (read_field l (at + 1) f) next
  field-there [] p l = absurd (omega (arith, p.some))
  field-there (x ∷ f) p l = field-spaced p.blanks p.rest p.here p.solid p.ends p.blank p.stops l ∙ rw p.goes_on

  pub word-there : {at : ℕ} (w : List ℕ) {next : ℕ} → Spaced s at w next → word_at s at ≡ after_word at next (word_of w)
  word-there [] p = absurd (omega (arith, p.some))
  word-there (x ∷ w) p = word-spaced p.blanks p.rest p.here p.solid p.ends p.blank p.stops ∙ rw p.goes_on

-- after a field that is accepted the next one begins where it ends
same_after : (a : Result Allowed Fault) (next : ℕ) (f g : Field → Result Time Fault)
    → ((set : ℕ) (star : Bool) → f (record { set = set; star = star; next = next }) ≡ g (record { set = set; star = star; next = next }))
    → after (answered a next) f ≡ after (answered a next) g
unfolding after answered
same_after (Ok v) next f g e = e v.set v.star
same_after (Err fault) next f g e = refl

-- ---- five fields, each judged wholly before the next

module _ (d : Dialect) (s : List ℕ) where
  -- a field of a text that starts at a place, and what comes after it, in the dialect
  abbrev pub judged : Limits → ℕ → List ℕ → ℕ → (Field → Result Time Fault) → Result Time Fault
  judged l at f next later = after (answered (read_field (in_dialect d l) (at + 1) f) next) later

  abbrev pub few_fields : Result Time Fault
  few_fields = Err (record { refusal = TooFewFields; column = length s + 1 })

  judged-there : (l : Limits) {at : ℕ} (f : List ℕ) {next : ℕ} → Spaced s at f next → (g h : Field → Result Time Fault)
      → ((set : ℕ) (star : Bool) → g (record { set = set; star = star; next = next }) ≡ h (record { set = set; star = star; next = next }))
      → after (field_at (in_dialect d l) s at) g ≡ judged l at f next h
  judged-there l {at} f {next} p g h e =
      ap (λ (x : _). after x g) (field-there f p (in_dialect d l)) ∙ same_after (read_field (in_dialect d l) (at + 1) f) next g h e

  missing : (l : Limits) (at : ℕ) (g : Field → Result Time Fault) → length s ≤ at → after (field_at (in_dialect d l) s at) g ≡ few_fields
  unfolding after field_at
  missing l at g h = rw (le-leb (length s) at h)

  module _ (p : ℕ) where
    pub no_fields : length s ≤ p → fields_at d s p ≡ few_fields
    unfolding fields_at
    no_fields end = missing minute_limits p _ end

    module _ (minute : List ℕ) (q : ℕ) (first : Spaced s p minute q) where
      pub one_field : length s ≤ q → fields_at d s p ≡ judged minute_limits p minute q (λ m. few_fields)
      unfolding fields_at
      one_field end = judged-there minute_limits minute first _ _ (λ set star. missing hour_limits q _ end)

      module _ (hour : List ℕ) (r : ℕ) (second : Spaced s q hour r) where
        pub two_fields : length s ≤ r → fields_at d s p ≡ judged minute_limits p minute q (λ m. judged hour_limits q hour r (λ h. few_fields))
        unfolding fields_at
        two_fields end =
            judged-there minute_limits minute first _ _ (λ set star.
            judged-there hour_limits hour second _ _ (λ set star. missing day_limits r _ end))

        module _ (day : List ℕ) (t : ℕ) (third : Spaced s r day t) where
          pub three-fields : length s ≤ t
              → fields_at d s p ≡ judged minute_limits p minute q (λ m. judged hour_limits q hour r (λ h. judged day_limits r day t (λ x. few_fields)))
          unfolding fields_at
          three-fields end =
              judged-there minute_limits minute first _ _ (λ set star.
              judged-there hour_limits hour second _ _ (λ set star.
              judged-there day_limits day third _ _ (λ set star. missing month_limits t _ end)))

          module _ (month : List ℕ) (u : ℕ) (fourth : Spaced s t month u) where
            pub four-fields : length s ≤ u
                → fields_at d s p
                ≡ judged minute_limits p minute q (λ m. judged hour_limits q hour r (λ h. judged day_limits r day t (λ x. judged month_limits t month u (λ y. few_fields))))
            unfolding fields_at
            four-fields end =
                judged-there minute_limits minute first _ _ (λ set star.
                judged-there hour_limits hour second _ _ (λ set star.
                judged-there day_limits day third _ _ (λ set star.
                judged-there month_limits month fourth _ _ (λ set star. missing weekday_limits u _ end))))

            pub five-fields : (weekday : List ℕ) (v : ℕ) → Spaced s u weekday v
                → fields_at d s p
                ≡ judged minute_limits p minute q (λ m. judged hour_limits q hour r (λ h. judged day_limits r day t (λ x. judged month_limits t month u
                (λ y. judged weekday_limits u weekday v (λ z. time_of (Timed (schedule_of m h x y z)) v)))))
            unfolding fields_at
            five-fields weekday v fifth =
                judged-there minute_limits minute first _ _ (λ set star.
                judged-there hour_limits hour second _ _ (λ set star.
                judged-there day_limits day third _ _ (λ set star.
                judged-there month_limits month fourth _ _ (λ set star.
                judged-there weekday_limits weekday fifth _ _ (λ set star. refl)))))
