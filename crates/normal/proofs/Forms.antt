-- Laws of a text in a buffer. One walk over items writes as much of it as fits, and tells what refuses it and how long it is; a second such walk
-- writes it whole.
-- Assumes nothing.
use Rattle.std.specs.Prelude.{Option, Some, None, Result, Ok, Err}
use mathlib.Core.Path.{◌≡◌, refl, sym, ap, ◌∙◌}
use mathlib.Core.Bool.{Bool, true, false, cond, ◌&&◌, and-true, and-false, and_assoc}
use mathlib.Core.List.{List, [], ◌++◌, append_assoc, append-nil}
use Prim.Native.Nat.{ℕ, ◌+◌, ◌-◌, ◌≤◌, ◌<◌}
use native.Mathlib.Omega.{arith}
use lib.ListN.{length, length-append}
use lib.Dec.{leb}
use borrow.Author.Tests.{le-leb, lt-leb, leb-true, leb-false}
use Rattle.octets.specs.Clipped.{last_place, Wrote}
use Rattle.octets.proofs.Written.{clipped-laid, wrote_none, wrote-next, wrote-onward, wrote-size, wrote-fits, saturated-small, saturated-past}
use Rattle.refusal.specs.declared.Refusal.{Refusal}
use Rattle.refusal.specs.declared.Refusal.TheVariants.{TooShort, TooLong}
use Rattle.refusal.specs.Numbers.{number_of}
use Rattle.refusal.proofs.Numbers.{number-small, numbers-differ}
use Rattle.field.specs.declared.Dialect.{Dialect}
use Rattle.crontab.specs.Limits.{max_table}
use Rattle.line.specs.Limits.{max_line}
use Rattle.crontab.specs.declared.table.TableFault.{TableFault}
use Rattle.crontab.specs.Tables.{table_of, refusal_in}
use Rattle.normal.specs.Meanings.{Item, of_user, meaning_of}
use Rattle.normal.specs.Texts.{normal_text, are_short, fits}
use Rattle.normal.specs.NormalForms.{NormalForm, refused_form, form_over_front, form_of, unless_refused, normal_form}
use Rattle.normal.specs.Inner.{measured, form_for, Tried, refusal_by, text_refusal}

-- a text that is measured is refused by nothing but a buffer
pub record Fits (refusal : Option Refusal) (t : List ℕ) (n : ℕ) : Type 0 where
  pub good : refusal ≡ None
  pub length : n ≡ length t

pub written-fits : (refusal : Option Refusal) (t : List ℕ) {n : ℕ} → Ok n ≡ measured refusal t → Fits refusal t n
unfolding measured
written-fits None t e = record { good = refl; length = cc }
written-fits (Some refusal) t e = cc

pub form-short : (refusal : Option Refusal) (t buffer : List ℕ) {n : ℕ} → Ok n ≡ measured refusal t → length buffer < n
    → refused_form TooShort buffer ≡ form_for refusal t buffer
unfolding form_for form_over_front
form-short refusal t buffer e h =
    let f = written-fits refusal t e in
    rw (f.good, lt-leb (length t) (length buffer) (omega (arith, f.length)))

pub form-refused : (refusal : Option Refusal) (t buffer : List ℕ) {why : Refusal} → Err why ≡ measured refusal t → refused_form why buffer ≡ form_for refusal t buffer
unfolding measured form_for
form-refused None t buffer e = cc
form-refused (Some refusal) t buffer {why} e = let z : why ≡ refusal = cc in rw z

-- a second walk writes the text whole
pub form-written : (refusal : Option Refusal) (t buffer : List ℕ) {n : ℕ} → Ok n ≡ measured refusal t → n ≤ length buffer
    → {r : Result ℕ Refusal} {now : List ℕ} → Tried refusal t buffer r now
    → (r ≡ (form_for refusal t buffer).answer) × (now ≡ (form_for refusal t buffer).buffer)
unfolding form_for form_over_front
form-written refusal t buffer e h w =
    let f = written-fits refusal t e in
    let room : length t ≤ length buffer = omega (arith, f.length) in
    rw (f.good, le-leb (length t) (length buffer) room) (w.is ∙ sym e ∙ ap Ok f.length, w.text f.good ∙ clipped-laid t buffer room)

-- ---- a text in parts, written as far as it fits

-- what is written is the text of some items up to those that are left
pub record Lined (all : List Item → List ℕ) (items left : List Item) (before : List ℕ) (at : ℕ) (now : List ℕ) : Type 0 where
  pub text : List ℕ
  pub wrote : Wrote 0 text before at now
  pub rest : text ++ all left ≡ all items

pub lined-starts : (all : List Item → List ℕ) {items left : List Item} (before : List ℕ) → left ≡ items → length before ≤ last_place
    → Lined all items left before 0 before
lined-starts all before e h = record { text = []; wrote = wrote_none 0 before (omega arith) h; rest = ap all e }

module _ {all : List Item → List ℕ} {items left : List Item} {before : List ℕ} {at : ℕ} {now : List ℕ} (so : Lined all items left before at now) where
  pub lined-next : {later : List Item} {part : List ℕ} → part ++ all later ≡ all left → {next : ℕ} {after : List ℕ} → Wrote at part now next after
      → Lined all items later before next after
  lined-next {later} {part} e w =
      record {
        text = so.text ++ part;
        wrote = wrote-next so.wrote w;
        rest = append_assoc so.text part (all later) ∙ ap (λ (t : List ℕ). so.text ++ t) e ∙ so.rest;
      }

  -- the next place is no earlier
  pub lined-onward : {part : List ℕ} {next : ℕ} {after : List ℕ} → Wrote at part now next after → at ≤ next
  lined-onward w = wrote-onward w (go (leb (0 + length so.text) last_place) refl)
    where
      go : (b : Bool) → leb (0 + length so.text) last_place ≡ b → at ≤ last_place
      go true e = let h = leb-true (0 + length so.text) last_place e in omega (arith, so.wrote.place, saturated-small (0 + length so.text) h, h)
      go false e = omega (arith, so.wrote.place, saturated-past (0 + length so.text) (leb-false (0 + length so.text) last_place e))

  -- all of it
  pub lined-text : all left ≡ [] → so.text ≡ all items
  lined-text e = sym (append-nil so.text) ∙ rw e at so.rest

  pub lined-ends : all left ≡ [] → Wrote 0 (all items) before at now
  lined-ends e = rw (lined-text e) at so.wrote

-- ---- the normal text, and whether all its lines so far are short, as far as 64 bits can say it

pub record Judged (items left : List Item) (before : List ℕ) (at : ℕ) (now : List ℕ) (short : Bool) : Type 0 where
  pub lined : Lined normal_text items left before at now
  pub lines : length lined.text ≤ last_place → (short && are_short left) ≡ are_short items

pub judged-starts : {items left : List Item} (before : List ℕ) → left ≡ items → length before ≤ last_place → Judged items left before 0 before true
judged-starts before e h = record { lined = lined-starts normal_text before e h; lines = λ k. ap are_short e }

module _ {items left : List Item} {before : List ℕ} {at : ℕ} {now : List ℕ} {short : Bool} (so : Judged items left before at now short) where
  pub judged-next : {later : List Item} {part : List ℕ} → part ++ normal_text later ≡ normal_text left
      → (leb (length part) (max_line + 1) && are_short later) ≡ are_short left
      → {next : ℕ} {after : List ℕ} → Wrote at part now next after → Judged items later before next after (short && leb (next - at) (max_line + 1))
  unfolding lined-next
  judged-next {later} {part} e f {next} w =
      record {
        lined = lined-next so.lined e w;
        lines =
            λ h. let whole = rw (length-append so.lined.text part) at h in
            rw (wrote-size so.lined.wrote w whole)
            (and_assoc short (leb (length part) (max_line + 1)) (are_short later) ∙ ap (λ (b : Bool). short && b) f ∙ so.lines (omega (arith, whole)));
      }

  -- what is answered where nothing else refuses it
  pub judged-ends : left ≡ [] → {refusal : Option Refusal} → refusal ≡ cond (fits items) None (Some TooLong)
      → Tried refusal (normal_text items) before (cond (short && leb at max_table) (Ok at) (Err TooLong)) now
  unfolding measured fits are_short normal_text
  judged-ends e r =
      let none : normal_text left ≡ [] = ap normal_text e in
      let whole = lined-ends so.lined none in
      let size = length (normal_text items) in
      let exact : size ≤ max_table → (at ≡ size) × ((short && true) ≡ are_short items) =
      λ k. (
        omega (arith, whole.place, saturated-small (0 + size) (omega (arith, k))),
        rw e at (so.lines (rw (lined-text so.lined none) (omega (arith, k)))),
      ) in
      record {
        is = rw (r, wrote-fits whole max_table (omega arith)) (go (leb size max_table) refl exact);
        size = whole.size;
        text = λ z. whole.bytes;
      }
    where
      lines : (a : Bool) → cond a (Ok (length (normal_text items))) (Err TooLong) ≡ measured (cond a None (Some TooLong)) (normal_text items)
      lines true = refl
      lines false = refl

      go : (b : Bool) → leb (length (normal_text items)) max_table ≡ b
          → (length (normal_text items) ≤ max_table → (at ≡ length (normal_text items)) × ((short && true) ≡ are_short items))
          → cond (short && b) (Ok at) (Err TooLong) ≡ measured (cond (are_short items && b) None (Some TooLong)) (normal_text items)
      go true e f =
          let x = f (leb-true _ max_table e) in
          rw (x.1, x.0, and-true (are_short items)) (lines (are_short items))
      go false e f = rw (and-false short, and-false (are_short items))

pub refused-measured : {refusal : Option Refusal} {why : Refusal} (t : List ℕ) → Some why ≡ refusal → Err why ≡ measured refusal t
unfolding measured
refused-measured t e = rw (← e)

-- two texts that are refused alike
pub resized : (refusal : Option Refusal) (t u : List ℕ) {n : ℕ} → Ok n ≡ measured refusal t → Ok (length u) ≡ measured refusal u
unfolding measured
resized refusal t u e = rw (written-fits refusal t e).good

pub refused-alike : (refusal : Option Refusal) (t u : List ℕ) {why : Refusal} → Err why ≡ measured refusal t → Err why ≡ measured refusal u
unfolding measured
refused-alike None t u e = cc
refused-alike (Some refusal) t u e = e

pub refused-tried : {refusal : Option Refusal} {why : Refusal} {t before now : List ℕ} → Some why ≡ refusal → length now ≡ length before → Tried refusal t before (Err why) now
refused-tried {why = why} e same = record { is = refused-measured _ e; size = same; text = λ h. let z : Some why ≡ None = e ∙ h in cc }

-- ---- a table's normal text

-- R21 after what refuses the table
pub by-refusals : {A : Type 0} (table : Result A TableFault) (fit : Bool) (t buffer : List ℕ)
    → unless_refused table (cond fit (form_over_front t buffer) (refused_form TooLong buffer)) buffer ≡ form_for (refusal_by table fit) t buffer
unfolding unless_refused form_for refusal_by
by-refusals (Ok x) true t buffer = refl
by-refusals (Ok x) false t buffer = refl
by-refusals (Err f) fit t buffer = refl

pub normal-form-is : (d : Dialect) (s buffer : List ℕ) → normal_form d s buffer ≡ form_for (text_refusal d s) (normal_text (meaning_of d s)) buffer
unfolding normal_form form_of text_refusal
normal-form-is d s buffer = by-refusals (table_of (of_user d) s) (fits (meaning_of d s)) (normal_text (meaning_of d s)) buffer

-- a good table isn't refused
pub unless-good : {A : Type 0} (table : Result A TableFault) (form : NormalForm) (buffer : List ℕ) → refusal_in table ≡ 0 → unless_refused table form buffer ≡ form
unfolding unless_refused
unless-good (Ok x) form buffer good = refl
unless-good (Err f) form buffer good = absurd (omega (arith, good, number-small f.refusal))

refused-by : {A : Type 0} (table : Result A TableFault) (fit : Bool) (why : Refusal) → number_of why ≡ refusal_in table → Some why ≡ refusal_by table fit
unfolding refusal_by
refused-by (Ok x) fit why e = absurd (omega (arith, e, number-small why))
refused-by (Err f) fit why e = ap Some (numbers-differ why f.refusal e)

pub text-refused : (d : Dialect) (s : List ℕ) (why : Refusal) → number_of why ≡ refusal_in (table_of (of_user d) s) → Some why ≡ text_refusal d s
unfolding text_refusal
text-refused d s why e = refused-by (table_of (of_user d) s) (fits (meaning_of d s)) why e

good-by : {A : Type 0} (table : Result A TableFault) (fit : Bool) → refusal_in table ≡ 0 → refusal_by table fit ≡ cond fit None (Some TooLong)
unfolding refusal_by
good-by (Ok x) fit good = refl
good-by (Err f) fit good = absurd (omega (arith, good, number-small f.refusal))

pub text-good : (d : Dialect) (s : List ℕ) → refusal_in (table_of (of_user d) s) ≡ 0 → text_refusal d s ≡ cond (fits (meaning_of d s)) None (Some TooLong)
unfolding text_refusal
text-good d s good = good-by (table_of (of_user d) s) (fits (meaning_of d s)) good

-- what nothing refuses is a good table's
passed-by : {A : Type 0} (table : Result A TableFault) (fit : Bool) → refusal_by table fit ≡ None → refusal_in table ≡ 0
unfolding refusal_by
passed-by (Ok x) fit e = refl
passed-by (Err f) fit e = cc

pub text-passed : (d : Dialect) (s : List ℕ) → text_refusal d s ≡ None → refusal_in (table_of (of_user d) s) ≡ 0
unfolding text_refusal
text-passed d s e = passed-by (table_of (of_user d) s) (fits (meaning_of d s)) e
