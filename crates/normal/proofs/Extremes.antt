-- The theorems of meanings and normal texts, each used where it says most: any table of the second dialect, read back in the first; and one table
-- with quoted settings, two offsets, `@reboot` and a range over the join. A theorem that said less would not give these.
-- Assumes nothing.
use mathlib.Core.Path.{◌≡◌, refl, ap, ◌∙◌}
use mathlib.Core.Bool.{true}
use mathlib.Core.List.{List, [], ◌∷◌, ◌++◌}
use Prim.Native.Nat.{ℕ, zero, suc, ◌*◌, ◌≤◌}
use native.Mathlib.Omega.{arith}
use lib.ListN.{length}
use lib.IntN.{pos, negsuc}
use Rattle.octets.specs.declared.class.Class.TheVariants.{InLine}
use Rattle.octets.specs.Runs.{are_of}
use Rattle.octets.specs.Texts.{text}
use Rattle.field.specs.declared.Dialect.TheVariants.{Rising, Wrapping}
use Rattle.schedule.specs.declared.Schedule.{Schedule}
use Rattle.crontab.specs.Lines.{lines_of}
use Rattle.line.specs.Offsets.{utc, is_allowed_setting}
use Rattle.crontab.specs.Items.{items_of}
use Rattle.crontab.specs.Tables.{table_of, refusal_in}
use Rattle.normal.specs.Meanings.{Item, setting, boot, timed, entries_in, of_user, meaning_of, offsets_from, entry_offsets, line_items, items_in}
use Rattle.normal.specs.Texts.{name_text, value_text, schedule_text, item_text, normal_text, fits}
use Rattle.normal.specs.Proper.{is_name, is_value, is_command, is_schedule, is_item, are_items}
use Rattle.normal.specs.NormalForms.{normal_form}
use Rattle.normal.specs.Computing.{writing}
use Rattle.normal.proofs.Theorems.{line-proper, line-back, name-bare, value-bare, meaning-lines, meaning-proper, meaning-few, meaning-offsets, read_back, normal-in-either, offsets-back, equal-forms, equal-texts, normal-again, form-again, text-joined, EachShort, fits-exact}

-- ---- any table that is good in the second dialect

module _ (s : List ℕ) (good : refusal_in (table_of (of_user Wrapping) s) ≡ 0) where
  -- meaning-lines, meaning-proper, meaning-few, meaning-offsets
  pub meaning-used :
      (meaning_of Wrapping s ≡ items_in Wrapping (lines_of s))
      × (are_items (meaning_of Wrapping s) ≡ true)
      × (entries_in (meaning_of Wrapping s) ≤ 512)
      × (entry_offsets (items_of (of_user Wrapping) s) ≡ offsets_from utc (meaning_of Wrapping s))
  meaning-used = (meaning-lines Wrapping s good, meaning-proper Wrapping s good, meaning-few Wrapping s good, meaning-offsets Wrapping s good)

  module _ (fit : fits (meaning_of Wrapping s) ≡ true) where
    abbrev normal : List ℕ
    normal = normal_text (meaning_of Wrapping s)

    -- normal-in-either: back in the first, and from there in the second again
    pub either-used : (refusal_in (table_of (of_user Rising) normal) ≡ 0) × (meaning_of Rising normal ≡ meaning_of Wrapping s)
    either-used = normal-in-either Wrapping Rising s good fit

    pub back-used : (refusal_in (table_of (of_user Wrapping) normal) ≡ 0) × (meaning_of Wrapping normal ≡ meaning_of Wrapping s)
    back-used = read_back Wrapping s good fit

    pub offsets-used : entry_offsets (items_of (of_user Rising) normal) ≡ entry_offsets (items_of (of_user Wrapping) s)
    offsets-used = offsets-back Wrapping Rising s good fit

    -- equal-forms: whatever the buffer, the call answers the same for the table and for its text in the other dialect
    pub forms-used : (buffer : List ℕ) → normal_form Rising normal buffer ≡ normal_form Wrapping s buffer
    forms-used buffer = equal-forms Rising Wrapping normal s buffer either-used.0 good either-used.1

    -- form-again, normal-again: from the second dialect to the first
    pub again-used : (buffer : List ℕ) → (normal_form Rising normal buffer ≡ normal_form Wrapping s buffer) × (normal_text (meaning_of Rising normal) ≡ normal)
    again-used buffer = (form-again Wrapping Rising s buffer good fit, normal-again Wrapping Rising s good fit)

    -- equal-texts, the other direction: a table of the first dialect with the same text has the same meaning
    pub texts-used : (t : List ℕ) → refusal_in (table_of (of_user Rising) t) ≡ 0 → fits (meaning_of Rising t) ≡ true → normal ≡ normal_text (meaning_of Rising t)
        → meaning_of Wrapping s ≡ meaning_of Rising t
    texts-used t other short same = equal-texts Wrapping Rising s t good other fit short same

-- ---- any table that is good in the first dialect: form-again, normal-again to the second

pub again-back : (s buffer : List ℕ) → refusal_in (table_of (of_user Rising) s) ≡ 0 → fits (meaning_of Rising s) ≡ true
    → let normal = normal_text (meaning_of Rising s) in (normal_form Wrapping normal buffer ≡ normal_form Rising s buffer) × (normal_text (meaning_of Wrapping normal) ≡ normal)
again-back s buffer good fit = (form-again Rising Wrapping s buffer good fit, normal-again Rising Wrapping s good fit)

-- ---- a line of each kind, whatever its length, in the second dialect

-- line-back
pub boot-back : (command : List ℕ) → is_command command ≡ true → line_items Wrapping (text "@reboot " ++ command) ≡ boot command ∷ []
unfolding is_item item_text
boot-back command e = line-back Wrapping (boot command) e

pub timed-back : (s : Schedule) (command : List ℕ) → is_schedule s ≡ true → is_command command ≡ true
    → line_items Wrapping (schedule_text s ++ 32 ∷ command) ≡ timed s command ∷ []
unfolding is_item item_text
timed-back s command p q = line-back Wrapping (timed s command) (rw (p, q) refl)

pub setting-back : (name value : List ℕ) → is_name name ≡ true → is_value value ≡ true → is_allowed_setting name value ≡ true
    → line_items Wrapping (name_text name ++ 61 ∷ value_text value) ≡ setting name value ∷ []
unfolding is_item item_text
setting-back name value p q r = line-back Wrapping (setting name value) (rw (p, q, r) refl)

-- line-proper
pub proper-used : (s : List ℕ) → are_of InLine s ≡ true → are_items (line_items Wrapping s) ≡ true
proper-used s clean = line-proper Wrapping s clean

-- name-bare, value-bare: a text that a bare line would read as itself isn't quoted
pub bare-used : (name value : List ℕ) → is_name name ≡ true → line_items Wrapping (name ++ 61 ∷ value) ≡ setting name value ∷ []
    → name_text name ++ 61 ∷ value_text value ≡ name ++ 61 ∷ value
unfolding name_text value_text
bare-used name value p e =
    let b = name-bare Wrapping name value value e in
    let is : name_text name ≡ name = rw b refl in
    let v = value-bare Wrapping name value p (rw is e) in
    rw (b, v) refl

-- ---- any number of items

-- `@reboot a` n times
abbrev boots : ℕ → List Item
boots zero = []
boots (suc n) = boot (text "a") ∷ boots n

abbrev boot_lines : ℕ → List ℕ
boot_lines zero = []
boot_lines (suc n) = text "@reboot a\n" ++ boot_lines n

boots-text : (n : ℕ) → normal_text (boots n) ≡ boot_lines n
unfolding writing
boots-text zero = refl
boots-text (suc n) = ap (λ (s : List ℕ). text "@reboot a\n" ++ s) (boots-text n)

boots-long : (n : ℕ) → length (boot_lines n) ≡ 10 * n
boots-long zero = omega arith
boots-long (suc n) = omega (arith, boots-long n)

boots-short : (n : ℕ) → EachShort (boots n)
unfolding writing
boots-short zero = tt
boots-short (suc n) = (omega arith, boots-short n)

-- text-joined: before any items
pub boots-joined : (n : ℕ) (is : List Item) → normal_text (boots n ++ is) ≡ boot_lines n ++ normal_text is
boots-joined n is = text-joined (boots n) is ∙ ap (λ (s : List ℕ). s ++ normal_text is) (boots-text n)

-- fits-exact: 4,915 of them are a table, and one more isn't
pub boots-fit : (n : ℕ) → (n ≤ 4915 → fits (boots n) ≡ true) × (fits (boots n) ≡ true → n ≤ 4915)
boots-fit n =
    let e : length (normal_text (boots n)) ≡ 10 * n = rw (boots-text n) (boots-long n) in (
      (λ h. (fits-exact (boots n)).1 (boots-short n, omega (arith, e))),
      (λ f. let k = ((fits-exact (boots n)).0 f).1 in omega (arith, e, k)),
    )

-- ---- one table

abbrev pub sample : List ℕ
sample = text "'A B'=' c'\n@reboot a\nCRON_TZ=-12:00\n59-0 22-1 * * fri-sun b %\n\"CRON_TZ\" = '+14:00'\n@weekly c\n"

abbrev pub sample_text : List ℕ
sample_text = text "\"A B\"=\" c\"\n@reboot a\nCRON_TZ=-12:00\n0,59 0,1,22,23 * * 0,5,6 b %\nCRON_TZ=+14:00\n0 0 * * 0 c\n"

sample-is : (refusal_in (table_of (of_user Wrapping) sample) ≡ 0) × (fits (meaning_of Wrapping sample) ≡ true) × (normal_text (meaning_of Wrapping sample) ≡ sample_text)
unfolding writing
sample-is = (refl, refl, refl)

pub sample-back : (refusal_in (table_of (of_user Rising) sample_text) ≡ 0) × (meaning_of Rising sample_text ≡ meaning_of Wrapping sample)
sample-back = rw sample-is.2 at (either-used sample sample-is.0 sample-is.1)

-- in the first dialect the text's entries are under UTC, 12 hours behind it and 14 ahead
sample-under : offsets_from utc (meaning_of Wrapping sample) ≡ pos 0 ∷ negsuc 719 ∷ pos 840 ∷ []
unfolding writing offsets_from
sample-under = refl

pub sample-offsets : entry_offsets (items_of (of_user Rising) sample_text) ≡ pos 0 ∷ negsuc 719 ∷ pos 840 ∷ []
sample-offsets =
    rw sample-is.2 at (offsets-used sample sample-is.0 sample-is.1)
    ∙ (meaning-used sample sample-is.0).3
    ∙ sample-under
