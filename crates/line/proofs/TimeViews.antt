-- Views of a time that is read: for each answer of `field_at` and `time_at` all that is known of it, proved once. A property of times is a
-- projection of these.
-- Assumes nothing.
use Rattle.std.specs.Prelude.{Some, None, Option, Ok, Err, Result}
use Rattle.refusal.specs.declared.Refusal.{Refusal}
use Rattle.refusal.specs.declared.Refusal.TheVariants.{TooFewFields}
use Rattle.refusal.specs.Numbers.{number_of}
use mathlib.Core.Path.{◌≡◌, refl}
use mathlib.Core.Bool.{Bool, true, false, cond, true≢false}
use mathlib.Core.List.{List, [], ◌∷◌}
use Prim.Native.Nat.{ℕ, ◌+◌, ◌-◌, ◌^◌, ◌≤◌, ◌<◌}
use native.Mathlib.Omega.{arith}
use lib.ListN.{length, drop, get_or, length-drop}
use lib.Dec.{eqb, leb}
use lib.Seq.{length-take-le}
use borrow.Author.Tests.{leb-false, eqb-true}
use Rattle.octets.specs.declared.class.Class.TheVariants.{Blank, Solid}
use Rattle.octets.specs.Classes.{is_blank}
use Rattle.octets.specs.Runs.{skipped, between}
use Rattle.octets.proofs.Runs.{skipped-from, skipped-within, byte-within}
use Rattle.octets.proofs.Places.{blank-end}
use Rattle.schedule.specs.declared.Schedule.{Schedule}
use Rattle.field.specs.declared.Dialect.{Dialect}
use Rattle.field.specs.declared.Dialect.TheVariants.{Rising, Wrapping}
use Rattle.field.specs.declared.Limits.{Limits}
use Rattle.field.specs.declared.Allowed.{Allowed}
use Rattle.field.specs.declared.Fault.{Fault}
use Rattle.field.specs.Fields.{read_field}
use Rattle.field.specs.Limits.{minute_limits, hour_limits, day_limits, month_limits, weekday_limits, in_dialect}
use Rattle.field.specs.Members.{is_star, elements_of}
use Rattle.field.proofs.Theorems.{Usual, dialect-usual, dialect-bits, set-fits}
pub use Rattle.field.proofs.Theorems.{RefusedIn, refused}
use Rattle.field.proofs.Theorems as field-theorems
use Rattle.line.specs.declared.time.When.{When}
use Rattle.line.specs.declared.time.When.TheVariants.{Reboot, Timed}
use Rattle.line.specs.declared.time.Field.{Field}
use Rattle.line.specs.declared.time.Time.{Time}
use Rattle.line.specs.Times.{answered, field_at, after, fields_at}
use Rattle.line.specs.Words.{Meaning, Named, reboot, fields, same, meanings, known, word_for, chosen, word_in, word_of, after_word, word_at}
use Rattle.line.specs.Entries.{at_sign, time_at}
use Rattle.line.specs.Owners.{behind, time_runs}
use Rattle.field.specs.Judgement.{means}

-- ---- a refusal

-- in a dialect: 7 only where ranges don't wrap
abbrev pub LineRefused : Dialect → ℕ → Refusal → ℕ → Type 0
LineRefused d = RefusedIn 1 27 (d ≡ Rising)

-- ---- a field at a place

-- the bytes of the field that starts there, and where the line goes on after its blanks
abbrev pub field_bytes : List ℕ → ℕ → List ℕ
field_bytes s at = between s at (skipped Solid s at)

abbrev pub after_run : List ℕ → ℕ → ℕ
after_run s at = skipped Blank s (skipped Solid s at)

pub record FieldRead (l : Limits) (s : List ℕ) (at : ℕ) (v : Field) : Type 0 where
  pub values : read_field l (at + 1) (field_bytes s at) ≡ means v.set v.star
  pub next : v.next ≡ after_run s at

abbrev pub FieldView : Dialect → Limits → List ℕ → ℕ → Result Field Fault → Type 0
FieldView d l s at (Ok v) = FieldRead (in_dialect d l) s at v
FieldView d l s at (Err fault) = LineRefused d (length s + 1) fault.refusal fault.column

field-length : (s : List ℕ) (at : ℕ) → at ≤ length s → at + length (field_bytes s at) ≤ length s
unfolding between
field-length s at h =
    let a = skipped-within Solid s at h in
    let b = skipped-from Solid s at in
    omega (arith, length-take-le (skipped Solid s at - at) (drop at s) (omega (arith, length-drop at s)))

rising-wraps : (d : Dialect) (l : Limits) → (in_dialect d l).wraps ≡ false → d ≡ Rising
unfolding in_dialect
rising-wraps Rising l e = refl
rising-wraps Wrapping l e = absurd (true≢false e)

pub field-view : (d : Dialect) (l : Limits) (s : List ℕ) (at : ℕ) → FieldView d l s at (field_at (in_dialect d l) s at)
unfolding field_at answered number_of
field-view d l s at =
    go (leb (length s) at) (read_field limits (at + 1) bytes) refl refl (field-theorems.field-view limits (at + 1) bytes)
  where
    limits : Limits
    limits = in_dialect d l

    bytes : List ℕ
    bytes = field_bytes s at

    go : (t : Bool) (a : Result Allowed Fault) → leb (length s) at ≡ t → read_field limits (at + 1) bytes ≡ a
        → field-theorems.FieldView limits (at + 1 + length bytes) 0 (is_star bytes) (elements_of limits bytes) a
        → FieldView d l s at (cond t (Err (record { refusal = TooFewFields; column = length s + 1 })) (answered a (after_run s at)))
    go true a e is h = refused refl (omega arith)
    go false (Ok v) e is h = record { values = is; next = refl }
    go false (Err fault) e is h =
        let i : at < length s = leb-false (length s) at e in
        record {
          from = omega (arith, h.from);
          to = omega (arith, h.to);
          rising = λ e. rising-wraps d l (h.rising e);
          inside = omega (arith, h.inside, field-length s at (omega arith));
        }

-- the width of a set that is read
pub field_fits : (l : Limits) → Usual l → (d : Dialect) (s : List ℕ) (at : ℕ) {v : Field} → field_at (in_dialect d l) s at ≡ Ok v → v.set < 2 ^ l.bits
field_fits l u d s at e =
    rw (dialect-bits l d) at (set-fits (in_dialect d l) (dialect-usual l u d) _ _ (rw e at (field-view d l s at)).values)

-- ---- when an entry fires: each of its five sets is what some field is read to

pub record FromField (l : Limits) (set : ℕ) (star : Bool) : Type 0 where
  pub dialect : Dialect
  pub column : ℕ
  pub bytes : List ℕ
  pub values : read_field (in_dialect dialect l) column bytes ≡ means set star

pub record FromFields (s : Schedule) : Type 0 where
  pub minutes : FromField minute_limits s.minutes s.stars.minutes
  pub hours : FromField hour_limits s.hours s.stars.hours
  pub days : FromField day_limits s.days s.stars.days
  pub months : FromField month_limits s.months s.stars.months
  pub weekdays : FromField weekday_limits s.weekdays s.stars.weekdays

abbrev pub WhenView : When → Type 0
WhenView Reboot = Unit {0}
WhenView (Timed s) = FromFields s

-- ---- a time at a place

-- it ends after so many runs of bytes that aren't blank, and no blank comes next
pub record TimeRead (s : List ℕ) (at runs : ℕ) (when : When) (next : ℕ) : Type 0 where
  pub sets : WhenView when
  pub ends : behind runs s at ≡ next
  pub solid : is_blank (get_or s next 0) ≡ false

abbrev pub TimeView : Dialect → List ℕ → ℕ → ℕ → Result Time Fault → Type 0
TimeView d s at runs (Ok t) = TimeRead s at runs t.when t.next
TimeView d s at runs (Err fault) = LineRefused d (length s + 1) fault.refusal fault.column

module _ (d : Dialect) (s : List ℕ) (from : ℕ) where
  after-view : (l : Limits) (at : ℕ) (later : Field → Result Time Fault) → ((v : Field) → FieldRead (in_dialect d l) s at v → TimeView d s from 5 (later v))
      → TimeView d s from 5 (after (field_at (in_dialect d l) s at) later)
  unfolding after
  after-view l at later more = go (field_at (in_dialect d l) s at) (field-view d l s at)
    where
      go : (f : Result Field Fault) → FieldView d l s at f → TimeView d s from 5 (after f later)
      go (Ok v) h = more v h
      go (Err fault) h = h

  field-from : {l : Limits} {at : ℕ} {v : Field} → FieldRead (in_dialect d l) s at v → FromField l v.set v.star
  field-from r = record { dialect = d; column = _; bytes = _; values = r.values }

  fields_view : TimeView d s from 5 (fields_at d s from)
  unfolding fields_at behind
  fields_view =
      after-view minute_limits from _ (λ minute a. after-view hour_limits minute.next _ (λ hour b. after-view day_limits hour.next _ (λ day c.
      after-view month_limits day.next _ (λ month d. after-view weekday_limits month.next _ (λ weekday e. record {
        sets = record { minutes = field-from a; hours = field-from b; days = field-from c; months = field-from d; weekdays = field-from e };
        ends = rw (← a.next, ← b.next, ← c.next, ← d.next, ← e.next);
        solid = rw e.next (blank-end s (skipped Solid s month.next));
      })))))

-- ---- a word

abbrev WordView : Option When → Type 0
WordView (Some when) = WhenView when
WordView None = Unit {0}

meaning-view : (m : Meaning) → WordView (word_for m)
unfolding word_for known
meaning-view reboot = tt
meaning-view (fields s) = go (fields_at Rising s 0) (fields_view Rising s 0)
  where
    go : (t : Result Time Fault) → TimeView Rising s 0 5 t → WordView (known t)
    go (Ok t) h = h.sets
    go (Err fault) h = tt

row-view : (ns : List Named) (s : List ℕ) → WordView (word_in ns s)
unfolding word_in chosen
row-view [] s = tt
row-view (n ∷ ns) s = go (same s n.word) (row-view ns s)
  where
    go : (t : Bool) → WordView (word_in ns s) → WordView (chosen t n.meaning (word_in ns s))
    go true h = meaning-view n.meaning
    go false h = h

-- ---- a time, by its first byte

pub time-view : (d : Dialect) (s : List ℕ) (at : ℕ) → TimeView d s at (time_runs s at) (time_at d s at)
unfolding time_at time_runs word_at word_of after_word behind number_of
time-view d s at = go (eqb (get_or s at 0) at_sign) refl
  where
    word : (w : Option When) → WordView w → at < length s → TimeView d s at 1 (after_word at (after_run s at) w)
    word None h i = refused refl (omega arith)
    word (Some when) h i = record { sets = h; ends = refl; solid = blank-end s (skipped Solid s at) }

    go : (t : Bool) → eqb (get_or s at 0) at_sign ≡ t → TimeView d s at (cond t 1 5) (cond t (word_at s at) (fields_at d s at))
    go true e = word (word_of (field_bytes s at)) (row-view meanings (field_bytes s at)) (byte-within s at (omega (arith, eqb-true (get_or s at 0) at_sign e)))
    go false e = fields_view d s at
