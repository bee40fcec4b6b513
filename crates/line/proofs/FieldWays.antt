-- Five fields and words to the end, with no inner name: what is read where all are accepted, and for each field what the line is where it is the first that is not.
-- Assumes nothing.
use Rattle.std.specs.Prelude.{Some, None, Err}
use Rattle.refusal.specs.declared.Refusal.{Refusal}
use Rattle.refusal.specs.declared.Refusal.TheVariants.{UnknownWord}
use mathlib.Core.Path.{◌≡◌, ◌∙◌}
use mathlib.Core.Bool.{Bool}
use mathlib.Core.List.{List}
use Prim.Native.Nat.{ℕ, ◌+◌}
use Rattle.field.specs.declared.Dialect.{Dialect}
use Rattle.field.specs.declared.Limits.{Limits}
use Rattle.field.specs.Limits.{in_dialect, minute_limits, hour_limits, day_limits, month_limits, weekday_limits}
use Rattle.field.specs.Fields.{read_field}
use Rattle.line.specs.declared.time.When.{When}
use Rattle.line.specs.declared.time.When.TheVariants.{Timed}
use Rattle.line.specs.Times.{time_of, answered, after, fields_at}
use Rattle.line.specs.Words.{word_of, after_word, word_at}
use Rattle.line.proofs.FiveFields.{Spaced, word-there, five-fields}
use Rattle.field.specs.Judgement.{refuses, means}

module _ {s : List ℕ} {at : ℕ} (w : List ℕ) {next : ℕ} (there : Spaced s at w next) where
  pub word-known : {when : When} → word_of w ≡ Some when → word_at s at ≡ time_of when next
  unfolding after_word
  word-known is = word-there w there ∙ rw is

  pub word-unknown : word_of w ≡ None → word_at s at ≡ Err (record { refusal = UnknownWord; column = at + 1 })
  unfolding after_word
  word-unknown is = word-there w there ∙ rw is

module _ (d : Dialect) (s : List ℕ) (p q r t u v : ℕ) (minute hour day month weekday : List ℕ)
    (first : Spaced s p minute q) (second : Spaced s q hour r) (third : Spaced s r day t) (fourth : Spaced s t month u) (fifth : Spaced s u weekday v) where
  abbrev Reads : Limits → ℕ → List ℕ → ℕ → Bool → Type 0
  Reads l at f set star = read_field (in_dialect d l) (at + 1) f ≡ means set star

  abbrev Refuses : Limits → ℕ → List ℕ → Refusal → ℕ → Type 0
  Refuses l at f refusal column = read_field (in_dialect d l) (at + 1) f ≡ refuses refusal column

  -- all five accepted, each with its own set and star
  pub five-accepted : {a b c e f : ℕ} {sa sb sc se sf : Bool}
      → Reads minute_limits p minute a sa → Reads hour_limits q hour b sb → Reads day_limits r day c sc → Reads month_limits t month e se → Reads weekday_limits u weekday f sf
      → fields_at d s p
      ≡ time_of
      (Timed (record {
        minutes = a;
        hours = b;
        days = c;
        months = e;
        weekdays = f;
        stars = record { minutes = sa; hours = sb; days = sc; months = se; weekdays = sf };
      })) v
  unfolding after answered
  five-accepted m h x y z = five-fields d s p minute q first hour r second day t third month u fourth weekday v fifth ∙ rw (m, h, x, y, z)

  -- the first that isn't accepted refuses the line, with its refusal and column
  module _ (refusal : Refusal) (column : ℕ) where
    abbrev Refused : Type 0
    Refused = fields_at d s p ≡ Err (record { refusal = refusal; column = column })

    pub minute-refused : Refuses minute_limits p minute refusal column → Refused
    unfolding after answered
    minute-refused m = five-fields d s p minute q first hour r second day t third month u fourth weekday v fifth ∙ rw m

    pub hour-refused : {a : ℕ} {sa : Bool} → Reads minute_limits p minute a sa → Refuses hour_limits q hour refusal column → Refused
    unfolding after answered
    hour-refused m h = five-fields d s p minute q first hour r second day t third month u fourth weekday v fifth ∙ rw (m, h)

    pub day-refused : {a b : ℕ} {sa sb : Bool} → Reads minute_limits p minute a sa → Reads hour_limits q hour b sb → Refuses day_limits r day refusal column → Refused
    unfolding after answered
    day-refused m h x = five-fields d s p minute q first hour r second day t third month u fourth weekday v fifth ∙ rw (m, h, x)

    pub month-refused : {a b c : ℕ} {sa sb sc : Bool}
        → Reads minute_limits p minute a sa → Reads hour_limits q hour b sb → Reads day_limits r day c sc → Refuses month_limits t month refusal column → Refused
    unfolding after answered
    month-refused m h x y = five-fields d s p minute q first hour r second day t third month u fourth weekday v fifth ∙ rw (m, h, x, y)

    pub weekday-refused : {a b c e : ℕ} {sa sb sc se : Bool}
        → Reads minute_limits p minute a sa → Reads hour_limits q hour b sb → Reads day_limits r day c sc → Reads month_limits t month e se
        → Refuses weekday_limits u weekday refusal column → Refused
    unfolding after answered
    weekday-refused m h x y z = five-fields d s p minute q first hour r second day t third month u fourth weekday v fifth ∙ rw (m, h, x, y, z)
