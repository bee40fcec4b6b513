-- Entries that are written: a proper schedule and a proper command are read back from their text.
-- Assumes nothing.
use Rattle.std.specs.Prelude.{Ok}
use mathlib.Core.Path.{◌≡◌, refl, ap, ◌∙◌}
use mathlib.Core.Bool.{Bool, true, false, not, ◌&&◌, and-eq-true_iff}
use mathlib.Core.Logic.{inl, inr}
use mathlib.Core.List.{List, [], ◌∷◌, ◌++◌, append_assoc}
use Prim.Native.Nat.{ℕ, suc, ◌+◌, ◌<◌}
use native.Mathlib.Omega.{arith}
use lib.ListN.{length, drop, get_or, length-drop}
use lib.Dec.{eqb, leb}
use borrow.Author.Tests.{lt-ltb, lt-leb, le-leb, leb-true, ne_eqb, not-true}
use Rattle.octets.specs.Texts.{text}
use Rattle.octets.specs.declared.class.Class.TheVariants.{Blank, Solid, InLine}
use Rattle.octets.specs.Classes.{is_blank, is_control, of_class}
use Rattle.octets.specs.Runs.{run, are_of}
use Rattle.octets.proofs.Runs.{trimmed-whole}
use Rattle.octets.proofs.Each.{each-so}
use Rattle.octets.proofs.Places.{all_are, solid-run, Stands, drop_past, between-here, skipped-here, within-here}
use Rattle.field.specs.declared.Dialect.{Dialect}
use Rattle.field.specs.declared.Limits.{Limits}
use Rattle.field.specs.Limits.{minute_limits, hour_limits, day_limits, month_limits, weekday_limits, in_dialect}
use Rattle.field.specs.Numbers.{is_digit}
use Rattle.field.specs.Written.{field_text, is_field}
use Rattle.field.proofs.Theorems.{Usual, minute-usual, hour-usual, day-usual, month-usual, weekday-usual, field_back, FieldByte, field-bytes, field-solid, Begins, field-begins}
use Rattle.schedule.specs.declared.Schedule.{Schedule}
use Rattle.line.specs.declared.time.When.{When}
use Rattle.line.specs.declared.time.When.TheVariants.{Reboot, Timed}
use Rattle.line.specs.Times.{time_of, answered, field_at, after, fields_at}
use Rattle.line.specs.Entries.{time_at, with_command, after_time, entry_at}
use Rattle.line.specs.Lines.{starts_entry}
use Rattle.crontab.specs.Computing.{reading}
use Rattle.normal.specs.Meanings.{boot, timed, of_user, entry_item, item_in}
use Rattle.normal.specs.Texts.{schedule_text}
use Rattle.normal.specs.Proper.{is_command, is_schedule}

-- ---- one field

byte-clean : (b : ℕ) → FieldByte b → of_class InLine b ≡ true
unfolding of_class is_control
byte-clean b h =
    rw (
      ne_eqb b 10 (λ e. omega (arith, e, h.0)),
      ne_eqb b 0 (λ e. omega (arith, e, h.0)),
      le-leb 1 b (omega (arith, h.0)),
      lt-leb b 8 (omega (arith, h.0)),
      le-leb 11 b (omega (arith, h.0)),
      lt-leb b 31 (omega (arith, h.0)),
      ne_eqb b 127 (λ e. omega (arith, e, h.1)),
    )

pub field-clean : (l : Limits) → Usual l → (set : ℕ) (star : Bool) → are_of InLine (field_text l set star) ≡ true
field-clean l u set star = all_are InLine (field_text l set star) (each-so FieldByte _ byte-clean (field_text l set star) (field-bytes l u set star))

-- a byte that starts an entry of five fields
pub record StartsFields (t : List ℕ) : Type 0 where
  pub first : ℕ
  pub more : List ℕ
  pub is : t ≡ first ∷ more
  pub solid : is_blank first ≡ false
  pub entry : starts_entry first ≡ true
  pub no-comment : eqb first 35 ≡ false
  pub no_word : eqb first 64 ≡ false

field-first : (t : List ℕ) → Begins t → StartsFields t
unfolding is_blank starts_entry is_digit
field-first [] h = absurd h
field-first (b ∷ t) (inl h) = record { first = b; more = t; is = refl; solid = rw h; entry = rw h; no-comment = rw h; no_word = rw h }
field-first (b ∷ t) (inr h) =
    record {
      first = b;
      more = t;
      is = refl;
      solid = rw (ne_eqb b 32 (λ e. omega (arith, e, h.0)), ne_eqb b 9 (λ e. omega (arith, e, h.0)));
      entry = rw (ne_eqb b 42 (λ e. omega (arith, e, h.0)), le-leb 48 b h.0, le-leb b 57 h.1);
      no-comment = ne_eqb b 35 (λ e. omega (arith, e, h.0));
      no_word = ne_eqb b 64 (λ e. omega (arith, e, h.1));
    }

-- read back, and where the line goes on
record FieldBack (d : Dialect) (l : Limits) (set : ℕ) (star : Bool) (s : List ℕ) (at : ℕ) (rest : List ℕ) : Type 0 where
  next : ℕ
  is : field_at (in_dialect d l) s at ≡ Ok (record { set = set; star = star; next = next })
  behind : drop next s ≡ rest

module _ (l : Limits) (u : Usual l) (set : ℕ) (star : Bool) (proper : is_field l set star ≡ true) where
  field-starts : (rest : List ℕ) → run Blank (field_text l set star ++ rest) ≡ 0
  field-starts rest =
      let f = field-first (field_text l set star) (field-begins l u set star proper) in
      ap (λ (t : List ℕ). run Blank (t ++ rest)) f.is ∙ solid-run (f.first ∷ (f.more ++ rest)) f.solid

  -- the field that stands at a place, and then a space
  module _ (s : List ℕ) (at : ℕ) (rest : List ℕ) (here : drop at s ≡ field_text l set star ++ 32 ∷ rest) (solid : run Blank rest ≡ 0) where
    there : Stands s at (field_text l set star) (32 ∷ rest)
    there = record { is = here }

    gap : Stands s (at + length (field_text l set star)) (32 ∷ []) rest
    gap = record { is = drop_past there }

    ends : run Solid (32 ∷ rest) ≡ 0
    unfolding run of_class is_blank
    ends = refl

    blanks : are_of Blank (32 ∷ []) ≡ true
    unfolding are_of of_class is_blank
    blanks = refl

    field-here : (d : Dialect) → FieldBack d l set star s at rest
    unfolding field_at answered
    field-here d =
        let solid-bytes = all_are Solid (field_text l set star) (field-solid l u set star) in
        let inside : at < length s = omega (arith, within-here gap) in
        record {
          next = at + length (field_text l set star) + 1;
          is =
              rw (
                lt-leb (length s) at inside,
                skipped-here there Solid solid-bytes ends,
                between-here there,
                field_back l u d (at + 1) set star proper,
                skipped-here gap Blank blanks solid,
              );
          behind = drop_past gap;
        }

-- the parts of a proper schedule
pub record ProperSchedule (x : Schedule) : Type 0 where
  pub minutes : is_field minute_limits x.minutes x.stars.minutes ≡ true
  pub hours : is_field hour_limits x.hours x.stars.hours ≡ true
  pub days : is_field day_limits x.days x.stars.days ≡ true
  pub months : is_field month_limits x.months x.stars.months ≡ true
  pub weekdays : is_field weekday_limits x.weekdays x.stars.weekdays ≡ true

pub schedule-parts : (x : Schedule) → is_schedule x ≡ true → ProperSchedule x
unfolding is_schedule
schedule-parts x e =
    let a = (and-eq-true_iff _ _).0 e in
    let b = (and-eq-true_iff _ _).0 a.1 in
    let c = (and-eq-true_iff _ _).0 b.1 in
    let d = (and-eq-true_iff _ _).0 c.1 in
    record { minutes = a.0; hours = b.0; days = c.0; months = d.0; weekdays = d.1 }

spaced : (a b rest : List ℕ) → a ++ 32 ∷ b ++ rest ≡ a ++ (32 ∷ (b ++ rest))
spaced a b rest = append_assoc a (32 ∷ b) rest

-- five fields that stand at a place, and then a space
module _ (x : Schedule) where
  abbrev weekdays_on : List ℕ → List ℕ
  weekdays_on rest = field_text weekday_limits x.weekdays x.stars.weekdays ++ 32 ∷ rest

  abbrev months_on : List ℕ → List ℕ
  months_on rest = field_text month_limits x.months x.stars.months ++ 32 ∷ weekdays_on rest

  abbrev days_on : List ℕ → List ℕ
  days_on rest = field_text day_limits x.days x.stars.days ++ 32 ∷ months_on rest

  abbrev hours_on : List ℕ → List ℕ
  hours_on rest = field_text hour_limits x.hours x.stars.hours ++ 32 ∷ days_on rest

  abbrev minutes_on : List ℕ → List ℕ
  minutes_on rest = field_text minute_limits x.minutes x.stars.minutes ++ 32 ∷ hours_on rest

  schedule-before : (rest : List ℕ) → schedule_text x ++ 32 ∷ rest ≡ minutes_on rest
  unfolding schedule_text
  schedule-before rest = simp spaced

  -- read back, and where the line goes on
  record TimeBack (d : Dialect) (s : List ℕ) (at : ℕ) (rest : List ℕ) : Type 0 where
    next : ℕ
    is : fields_at d s at ≡ time_of (Timed x) next
    behind : drop next s ≡ rest

  fields_back : (d : Dialect) → is_schedule x ≡ true → (s : List ℕ) (at : ℕ) (rest : List ℕ) → drop at s ≡ schedule_text x ++ 32 ∷ rest → run Blank rest ≡ 0 → TimeBack d s at rest
  unfolding fields_at after
  fields_back d proper s at rest here solid =
      let p = schedule-parts x proper in
      let minute = field-here minute_limits minute-usual x.minutes x.stars.minutes p.minutes s at (hours_on rest)
      (here ∙ schedule-before rest) (field-starts hour_limits hour-usual x.hours x.stars.hours p.hours (32 ∷ days_on rest)) d in
      let hour = field-here hour_limits hour-usual x.hours x.stars.hours p.hours s minute.next (days_on rest)
      minute.behind (field-starts day_limits day-usual x.days x.stars.days p.days (32 ∷ months_on rest)) d in
      let day = field-here day_limits day-usual x.days x.stars.days p.days s hour.next (months_on rest)
      hour.behind (field-starts month_limits month-usual x.months x.stars.months p.months (32 ∷ weekdays_on rest)) d in
      let month = field-here month_limits month-usual x.months x.stars.months p.months s day.next (weekdays_on rest)
      day.behind (field-starts weekday_limits weekday-usual x.weekdays x.stars.weekdays p.weekdays (32 ∷ rest)) d in
      let weekday = field-here weekday_limits weekday-usual x.weekdays x.stars.weekdays p.weekdays s month.next rest month.behind solid d in
      record { next = weekday.next; is = rw (minute.is, hour.is, day.is, month.is, weekday.is); behind = weekday.behind }

-- ---- the command behind the time

-- the parts of a proper command
pub record ProperCommand (c : List ℕ) : Type 0 where
  pub some : 0 < length c
  pub clean : are_of InLine c ≡ true
  pub solid : run Blank c ≡ 0

pub command-parts : (c : List ℕ) → is_command c ≡ true → ProperCommand c
unfolding is_command
command-parts c e =
    let a = (and-eq-true_iff (leb 1 (length c)) (are_of InLine c && not (is_blank (get_or c 0 0)))).0 e in
    let b = (and-eq-true_iff (are_of InLine c) (not (is_blank (get_or c 0 0)))).0 a.1 in
    record { some = leb-true 1 (length c) a.0; clean = b.0; solid = solid-run c (not-true (is_blank (get_or c 0 0)) b.1) }

command-back : (d : Dialect) (s : List ℕ) (when : When) (next : ℕ) (c : List ℕ) → time_at d s 0 ≡ time_of when next → drop next s ≡ c → 0 < length c
    → item_in s (entry_at (of_user d) s 0) ≡ entry_item when c ∷ []
unfolding entry_at after_time with_command item_in
command-back d s when next c is here some =
    let inside : next < length s = omega (arith, length-drop next s, ap length here) in
    rw (is, lt-ltb next (length s) inside, trimmed-whole s next, here)

-- ---- an entry

reboot-word : (d : Dialect) (c : List ℕ) → run Blank c ≡ 0 → time_at d (text "@reboot " ++ c) 0 ≡ time_of Reboot 8
unfolding reading
reboot-word d c h = ap (λ (n : ℕ). time_of Reboot (7 + suc n)) h

pub boot-back : (d : Dialect) (c : List ℕ) → is_command c ≡ true → item_in (text "@reboot " ++ c) (entry_at (of_user d) (text "@reboot " ++ c) 0) ≡ boot c ∷ []
unfolding entry_item
boot-back d c e = let p = command-parts c e in command-back d (text "@reboot " ++ c) Reboot 8 c (reboot-word d c p.solid) refl p.some

module _ (x : Schedule) (c : List ℕ) (proper : is_schedule x ≡ true) where
  -- its text starts an entry
  pub timed-starts : StartsFields (schedule_text x ++ 32 ∷ c)
  timed-starts =
      let p = schedule-parts x proper in
      let f = field-first (field_text minute_limits x.minutes x.stars.minutes) (field-begins minute_limits minute-usual x.minutes x.stars.minutes p.minutes) in
      record {
        first = f.first;
        more = f.more ++ 32 ∷ hours_on x c;
        is = schedule-before x c ∙ ap (λ (t : List ℕ). t ++ 32 ∷ hours_on x c) f.is;
        solid = f.solid;
        entry = f.entry;
        no-comment = f.no-comment;
        no_word = f.no_word;
      }

  pub timed-back : (d : Dialect) → is_command c ≡ true → item_in (schedule_text x ++ 32 ∷ c) (entry_at (of_user d) (schedule_text x ++ 32 ∷ c) 0) ≡ timed x c ∷ []
  unfolding entry_item time_at
  timed-back d e =
      let p = command-parts c e in
      let f = timed-starts in
      let b = fields_back x d proper (schedule_text x ++ 32 ∷ c) 0 c refl p.solid in
      let first : get_or (schedule_text x ++ 32 ∷ c) 0 0 ≡ f.first = ap (λ (s : List ℕ). get_or s 0 0) f.is in
      command-back d (schedule_text x ++ 32 ∷ c) (Timed x) b.next c (rw (first, f.no_word) b.is) b.behind p.some
