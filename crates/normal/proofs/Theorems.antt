-- What a caller may rely on: of what a user table means (P1), and of its normal form (P2 to P11).
--   line-proper, line-back: the items that lines mean, whatever their length, are just those that pass `is_item`, and each is read back from its text
--   item-clean: the text of an item that passes has only bytes that a line may have
--   name-bare, value-bare: quotes stand only where a bare reading would differ
--   meaning-lines: a good table means what its lines mean, one after the other
--   meaning-proper, meaning-few: its items pass the test, and no more of them are entries than there may be
--   written-good, written-means: items that pass the test and fit are written to a good table, which means them
-- The normal form reads the same in either dialect (P10):
--   normal-in-either: the normal text of a table that is good in a dialect is good in either dialect, and means there what the table means
--   read_back: so in the table's own
--   meaning-offsets, offsets-back: the offsets that a table's entries are under follow from its meaning, so reading back carries them
--   equal-meanings, equal-forms, equal-texts: equal meanings write equal bytes, whatever the buffer, and other meanings others
--   normal-again, form-again: a normal text is written as itself
--   form-told: a refused call changes no byte, and any call keeps the buffer's length
--   schedule-small, schedule-long: the sets of a schedule that passes the test fit the bytes that they have, and its text has 9 bytes or more
--   shortest-step: the n of a field's `*/n` is the smallest that gives its set, over any limits; `field` has it
-- Of any length (Composition):
--   text-joined, text-one, short-joined, entries-joined: the text of items, their shortness and their entries, item by item
--   boot-text, timed-text, setting-text: the text of each kind of item
--   name-exact, value-exact, in-double, in-single: quotes exactly where a bare reading would differ, double before single
--   setting-items, entry-items, ignored-items, refused-items, item-is: what each kind of line gives (LineItems)
--   name-bare-exact, value-bare-exact, otherwise-double, otherwise-single, double-in-single, name-reads, value-reads: the bytes that stand bare (LineItems)
--   fits-exact: the two limits
--   form-refuses, form-too-long, form-no-room, form-writes: what the call answers, one equation for each way
-- Extremes uses them for the second dialect, and for a table with quoted settings, offsets and a range over the join.
-- Assumes nothing.
use Rattle.std.specs.Prelude.{Result, Ok, Err}
use mathlib.Core.Path.{◌≡◌, refl, sym, ap, ◌∙◌}
use mathlib.Core.Bool.{Bool, true, false, cond, and-eq-true_iff}
use mathlib.Core.List.{List, ◌++◌, [], ◌∷◌}
use Prim.Native.Nat.{ℕ, ◌≤◌, ◌<◌}
use native.Mathlib.Omega.{arith}
use lib.ListN.{length, drop, length-append, length-drop}
use lib.Dec.{leb}
use borrow.Author.Tests.{leb-true}
use Rattle.octets.specs.OverFront.{over_front}
use Rattle.refusal.specs.declared.Refusal.{Refusal}
use Rattle.refusal.specs.declared.Refusal.TheVariants.{TooShort, TooLong}
use Rattle.refusal.specs.Numbers.{number_of, IsRefusal}
use Rattle.refusal.proofs.Numbers.{number-small}
use Rattle.octets.specs.LittleEndian.{width}
use Rattle.field.specs.declared.Dialect.{Dialect}
use Rattle.field.specs.Limits.{minute_limits, hour_limits, day_limits, month_limits, weekday_limits}
use Rattle.field.proofs.Theorems.{Begins, field-begins, field_fits, minute-usual, hour-usual, day-usual, month-usual, weekday-usual}
use Rattle.schedule.specs.declared.Schedule.{Schedule}
use Rattle.field.specs.Written.{field_text}
use Rattle.crontab.specs.Limits.{max_table}
pub use Rattle.field.proofs.Theorems.{shortest-step}
use Rattle.line.specs.Offsets.{utc}
use Rattle.crontab.specs.Items.{items_of}
use Rattle.crontab.specs.declared.table.Table.{Table}
use Rattle.crontab.specs.declared.table.TableFault.{TableFault}
use Rattle.crontab.specs.Tables.{table_of, refusal_in}
use Rattle.normal.specs.Meanings.{Item, of_user, meaning_of, offsets_from, entry_offsets}
use Rattle.normal.specs.Texts.{schedule_text, normal_text, are_short, fits}
use Rattle.normal.specs.Proper.{is_schedule}
use Rattle.normal.specs.NormalForms.{NormalForm, refused_form, form_over_front, form_of, unless_refused, normal_form}
use Rattle.normal.proofs.Forms.{unless-good}
use Rattle.normal.proofs.EntryTexts.{schedule-parts}
pub use Rattle.normal.proofs.Lines.{line-proper, line-back, item-clean}
pub use Rattle.normal.proofs.Quotes.{name-bare, value-bare}
pub use Rattle.normal.proofs.Composition.{text-joined, text-one, short-joined, entries-joined, boot-text, timed-text, setting-text}
pub use Rattle.normal.proofs.Composition.{name-exact, value-exact, in-double, in-single, EachShort, fits-exact, form-refuses, form-too-long, form-no-room, form-writes}
pub use Rattle.normal.proofs.Tables.{meaning-lines, meaning-proper, meaning-few, written-good, written-means, meaning-offsets}

-- ---- meanings

-- what fits
pub record Fitting (is : List Item) : Type 0 where
  pub short : are_short is ≡ true
  pub small : length (normal_text is) ≤ max_table

pub fits-parts : (is : List Item) → fits is ≡ true → Fitting is
unfolding fits
fits-parts is e =
    let t = (and-eq-true_iff (are_short is) (leb (length (normal_text is)) max_table)).0 e in
    record { short = t.0; small = leb-true (length (normal_text is)) max_table t.1 }

-- the normal text of a table in a dialect is a good table in either, which means the same
pub normal-in-either : (d e : Dialect) (s : List ℕ) → refusal_in (table_of (of_user d) s) ≡ 0 → fits (meaning_of d s) ≡ true
    → (refusal_in (table_of (of_user e) (normal_text (meaning_of d s))) ≡ 0) × (meaning_of e (normal_text (meaning_of d s)) ≡ meaning_of d s)
normal-in-either d e s good fit =
    let f = fits-parts (meaning_of d s) fit in
    let p = meaning-proper d s good in
    let n = meaning-few d s good in
    (written-good e (meaning_of d s) p f.short f.small n, written-means e (meaning_of d s) p f.short f.small n)

-- reading it back gives the same meaning
pub read_back : (d : Dialect) (s : List ℕ) → refusal_in (table_of (of_user d) s) ≡ 0 → fits (meaning_of d s) ≡ true
    → (refusal_in (table_of (of_user d) (normal_text (meaning_of d s))) ≡ 0) × (meaning_of d (normal_text (meaning_of d s)) ≡ meaning_of d s)
read_back d = normal-in-either d d

-- and the same offsets
pub offsets-back : (d e : Dialect) (s : List ℕ) → refusal_in (table_of (of_user d) s) ≡ 0 → fits (meaning_of d s) ≡ true
    → entry_offsets (items_of (of_user e) (normal_text (meaning_of d s))) ≡ entry_offsets (items_of (of_user d) s)
offsets-back d e s good fit =
    let b = normal-in-either d e s good fit in
    meaning-offsets e (normal_text (meaning_of d s)) b.0 ∙ ap (offsets_from utc) b.1 ∙ sym (meaning-offsets d s good)

-- equal meanings write equal bytes, whatever the dialects
pub equal-meanings : (d e : Dialect) (s t : List ℕ) → meaning_of d s ≡ meaning_of e t → normal_text (meaning_of d s) ≡ normal_text (meaning_of e t)
equal-meanings d e s t q = ap normal_text q

-- and equal bytes have equal meanings
pub equal-texts : (d e : Dialect) (s t : List ℕ) → refusal_in (table_of (of_user d) s) ≡ 0 → refusal_in (table_of (of_user e) t) ≡ 0 → fits (meaning_of d s) ≡ true → fits (meaning_of e t) ≡ true
    → normal_text (meaning_of d s) ≡ normal_text (meaning_of e t) → meaning_of d s ≡ meaning_of e t
equal-texts d e s t p q f g same = sym (normal-in-either d d s p f).1 ∙ ap (meaning_of d) same ∙ (normal-in-either e d t q g).1

-- a normal text is written as itself
pub normal-again : (d e : Dialect) (s : List ℕ) → refusal_in (table_of (of_user d) s) ≡ 0 → fits (meaning_of d s) ≡ true
    → normal_text (meaning_of e (normal_text (meaning_of d s))) ≡ normal_text (meaning_of d s)
normal-again d e s good fit = ap normal_text (normal-in-either d e s good fit).1

-- ---- the sets of a schedule

-- they fit eight bytes, four, four, two and one
pub schedule-small : (s : Schedule) → is_schedule s ≡ true
    → (s.minutes < width 8) × (s.hours < width 4) × (s.days < width 4) × (s.months < width 2) × (s.weekdays < width 1)
schedule-small s e =
    let p = schedule-parts s e in (
      omega (arith, field_fits minute_limits minute-usual s.minutes s.stars.minutes p.minutes),
      omega (arith, field_fits hour_limits hour-usual s.hours s.stars.hours p.hours),
      omega (arith, field_fits day_limits day-usual s.days s.stars.days p.days),
      omega (arith, field_fits month_limits month-usual s.months s.stars.months p.months),
      omega (arith, field_fits weekday_limits weekday-usual s.weekdays s.stars.weekdays p.weekdays),
    )

begins-some : (t : List ℕ) → Begins t → 1 ≤ length t
begins-some [] h = absurd h
begins-some (b ∷ t) h = omega arith

-- five fields of one byte or more, and four spaces
pub schedule-long : (s : Schedule) → is_schedule s ≡ true → 9 ≤ length (schedule_text s)
unfolding schedule_text
schedule-long s e =
    let p = schedule-parts s e in
    let minutes = begins-some (field_text minute_limits s.minutes s.stars.minutes) (field-begins minute_limits minute-usual s.minutes s.stars.minutes p.minutes) in
    let hours = begins-some (field_text hour_limits s.hours s.stars.hours) (field-begins hour_limits hour-usual s.hours s.stars.hours p.hours) in
    let days = begins-some (field_text day_limits s.days s.stars.days) (field-begins day_limits day-usual s.days s.stars.days p.days) in
    let months = begins-some (field_text month_limits s.months s.stars.months) (field-begins month_limits month-usual s.months s.stars.months p.months) in
    let weekdays = begins-some (field_text weekday_limits s.weekdays s.stars.weekdays) (field-begins weekday_limits weekday-usual s.weekdays s.stars.weekdays p.weekdays) in
    simp length-append (omega (arith, minutes, hours, days, months, weekdays))

-- ---- the call

good-form : (d : Dialect) (s buffer : List ℕ) → refusal_in (table_of (of_user d) s) ≡ 0 → normal_form d s buffer ≡ form_of (meaning_of d s) buffer
unfolding normal_form
good-form d s buffer good = unless-good (table_of (of_user d) s) (form_of (meaning_of d s) buffer) buffer good

-- the whole answer and every byte
pub equal-forms : (d e : Dialect) (s t buffer : List ℕ) → refusal_in (table_of (of_user d) s) ≡ 0 → refusal_in (table_of (of_user e) t) ≡ 0 → meaning_of d s ≡ meaning_of e t
    → normal_form d s buffer ≡ normal_form e t buffer
equal-forms d e s t buffer p q same = good-form d s buffer p ∙ ap (λ (is : List Item). form_of is buffer) same ∙ sym (good-form e t buffer q)

pub form-again : (d e : Dialect) (s buffer : List ℕ) → refusal_in (table_of (of_user d) s) ≡ 0 → fits (meaning_of d s) ≡ true
    → normal_form e (normal_text (meaning_of d s)) buffer ≡ normal_form d s buffer
form-again d e s buffer good fit =
    let b = normal-in-either d e s good fit in
    equal-forms e d (normal_text (meaning_of d s)) s buffer b.0 good b.1

-- ---- what comes back

-- of a buffer as it was and as it is: a refusal has its number, and changes no byte; what is written has at most so many bytes
abbrev pub Told : ℕ → List ℕ → Result ℕ Refusal → List ℕ → Type 0
Told most before (Ok size) now = (size ≤ most) × (size ≤ length before) × (length now ≡ length before)
Told most before (Err refusal) now = IsRefusal (number_of refusal) × (now ≡ before)

abbrev pub FormBounded : ℕ → List ℕ → NormalForm → Type 0
FormBounded most before f = Told most before f.answer f.buffer

pub refused-told : (most : ℕ) (refusal : Refusal) (buffer : List ℕ) → FormBounded most buffer (refused_form refusal buffer)
unfolding refused_form
refused-told most refusal buffer = (number-small refusal, refl)

pub laid-told : (most : ℕ) (t buffer : List ℕ) → length t ≤ most → FormBounded most buffer (form_over_front t buffer)
unfolding form_over_front refused_form over_front
laid-told most t buffer small = go (leb (length t) (length buffer)) refl
  where
    form : Bool → NormalForm
    form b = cond b (record { answer = Ok (length t); buffer = t ++ drop (length t) buffer }) (record { answer = Err TooShort; buffer = buffer })

    go : (b : Bool) → leb (length t) (length buffer) ≡ b → FormBounded most buffer (form b)
    go true e =
        let room = leb-true (length t) (length buffer) e in
        (small, room, omega (arith, length-append t (drop (length t) buffer), length-drop (length t) buffer))
    go false e = (number-small TooShort, refl)

pub items-told : (is : List Item) (buffer : List ℕ) → FormBounded max_table buffer (form_of is buffer)
unfolding form_of
items-told is buffer = go (fits is) refl
  where
    go : (b : Bool) → fits is ≡ b → FormBounded max_table buffer (cond b (form_over_front (normal_text is) buffer) (refused_form TooLong buffer))
    go true e = laid-told max_table (normal_text is) buffer (fits-parts is e).small
    go false e = refused-told max_table TooLong buffer

pub form-told : (d : Dialect) (s buffer : List ℕ) → FormBounded max_table buffer (normal_form d s buffer)
unfolding normal_form unless_refused
form-told d s buffer = go (table_of (of_user d) s)
  where
    go : (table : Result Table TableFault) → FormBounded max_table buffer (unless_refused table (form_of (meaning_of d s) buffer) buffer)
    go (Ok t) = items-told (meaning_of d s) buffer
    go (Err f) = refused-told max_table f.refusal buffer
