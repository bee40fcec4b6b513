-- Normal texts of any length: the text of items is that of each, one after the other; each item's text, byte by byte; quotes just where a bare reading
-- would differ, double before single; and what the call answers, for any table and buffer.
-- Assumes nothing.
use Rattle.refusal.specs.declared.Refusal.TheVariants.{TooShort, TooLong}
use Rattle.std.specs.Prelude.{Ok, Err}
use mathlib.Core.Path.{◌≡◌, refl, ap, ◌∙◌}
use mathlib.Core.Bool.{Bool, true, false, ◌&&◌, and-eq-true_iff}
use mathlib.Core.List.{List, [], ◌∷◌, ◌++◌, append_assoc}
use Prim.Native.Nat.{ℕ, ◌+◌, ◌≤◌, ◌<◌}
use native.Mathlib.Omega.{arith}
use lib.ListN.{length, drop}
use lib.Dec.{leb}
use borrow.Author.Tests.{le-leb, lt-leb, leb-true}
use Rattle.octets.specs.Texts.{text}
use Rattle.octets.specs.declared.class.Class.TheVariants.{Not}
use Rattle.octets.specs.Runs.{are_of}
use Rattle.octets.specs.OverFront.{over_front}
use Rattle.field.specs.declared.Dialect.{Dialect}
use Rattle.field.specs.Limits.{minute_limits, hour_limits, day_limits, month_limits, weekday_limits}
use Rattle.field.specs.Written.{field_text}
use Rattle.schedule.specs.declared.Schedule.{Schedule}
use Rattle.line.specs.Limits.{max_line}
use Rattle.crontab.specs.Limits.{max_table}
use Rattle.line.specs.Offsets.{is_allowed_setting}
use Rattle.crontab.specs.declared.table.TableFault.{TableFault}
use Rattle.crontab.specs.Tables.{table_of, refusal_in}
use Rattle.normal.specs.Meanings.{Item, setting, boot, timed, entries_in, of_user, meaning_of, line_items}
use Rattle.normal.specs.Texts.{double_quote, single_quote, quoted, is_bare_name, is_bare_value, name_text, value_text, schedule_text, item_text, normal_text, are_short, fits}
use Rattle.normal.specs.Proper.{is_name, is_value, is_item}
use Rattle.normal.specs.NormalForms.{refused_form, form_over_front, form_of, unless_refused, normal_form}
use Rattle.normal.proofs.Forms.{unless-good}
use Rattle.normal.proofs.Lines.{line-back}
use Rattle.normal.proofs.Quotes.{name-bare, value-bare}

-- ---- items one after the other

pub text-joined : (a b : List Item) → normal_text (a ++ b) ≡ normal_text a ++ normal_text b
unfolding normal_text
text-joined [] b = refl
text-joined (i ∷ a) b = rw (text-joined a b, append_assoc) refl

pub text-one : (i : Item) → normal_text (i ∷ []) ≡ item_text i ++ 10 ∷ []
unfolding normal_text
text-one i = refl

pub short-joined : (a b : List Item) → are_short (a ++ b) ≡ (are_short a && are_short b)
unfolding are_short
short-joined [] b = refl
short-joined (i ∷ a) b = rw (short-joined a b) (sym-assoc (leb (length (item_text i)) max_line) (are_short a) (are_short b))
  where
    sym-assoc : (x y z : Bool) → (x && (y && z)) ≡ ((x && y) && z)
    sym-assoc true y z = refl
    sym-assoc false y z = refl

pub entries-joined : (a b : List Item) → entries_in (a ++ b) ≡ entries_in a + entries_in b
unfolding entries_in
entries-joined [] b = omega arith
entries-joined (setting name value ∷ a) b = entries-joined a b
entries-joined (boot command ∷ a) b = omega (arith, entries-joined a b)
entries-joined (timed s command ∷ a) b = omega (arith, entries-joined a b)

-- ---- one item

pub boot-text : (command : List ℕ) → item_text (boot command) ≡ text "@reboot " ++ command
unfolding item_text
boot-text command = refl

spaced : (a b c d e x : List ℕ)
    → ((((a ++ 32 ∷ b) ++ 32 ∷ c) ++ 32 ∷ d) ++ 32 ∷ e) ++ 32 ∷ x ≡ a ++ (32 ∷ (b ++ (32 ∷ (c ++ (32 ∷ (d ++ (32 ∷ (e ++ (32 ∷ x)))))))))
spaced a b c d e x =
    append_assoc (((a ++ 32 ∷ b) ++ 32 ∷ c) ++ 32 ∷ d) (32 ∷ e) (32 ∷ x)
    ∙ append_assoc ((a ++ 32 ∷ b) ++ 32 ∷ c) (32 ∷ d) (32 ∷ (e ++ 32 ∷ x))
    ∙ append_assoc (a ++ 32 ∷ b) (32 ∷ c) (32 ∷ (d ++ (32 ∷ (e ++ 32 ∷ x))))
    ∙ append_assoc a (32 ∷ b) (32 ∷ (c ++ (32 ∷ (d ++ (32 ∷ (e ++ 32 ∷ x))))))

-- five fields with a space after each, and the command
pub timed-text : (s : Schedule) (command : List ℕ)
    → item_text (timed s command)
    ≡ field_text minute_limits s.minutes s.stars.minutes
    ++ (32 ∷ (field_text hour_limits s.hours s.stars.hours
    ++ (32 ∷ (field_text day_limits s.days s.stars.days
    ++ (32 ∷ (field_text month_limits s.months s.stars.months
    ++ (32 ∷ (field_text weekday_limits s.weekdays s.stars.weekdays
    ++ (32 ∷ command)))))))))
unfolding item_text schedule_text
timed-text s command =
    spaced
    (field_text minute_limits s.minutes s.stars.minutes)
    (field_text hour_limits s.hours s.stars.hours)
    (field_text day_limits s.days s.stars.days)
    (field_text month_limits s.months s.stars.months)
    (field_text weekday_limits s.weekdays s.stars.weekdays)
    command

pub setting-text : (name value : List ℕ) → item_text (setting name value) ≡ name_text name ++ (61 ∷ value_text value)
unfolding item_text
setting-text name value = refl

-- ---- quotes

module _ (d : Dialect) (name value : List ℕ) (p : is_name name ≡ true) (q : is_value value ≡ true) (r : is_allowed_setting name value ≡ true) where
  read_as : line_items d (name_text name ++ 61 ∷ value_text value) ≡ setting name value ∷ []
  unfolding is_item item_text
  read_as = line-back d (setting name value) (rw (p, q, r) refl)

  -- a name is written bare exactly where a line with it bare would mean the same
  pub name-exact : (name_text name ≡ name → line_items d (name ++ 61 ∷ value_text value) ≡ setting name value ∷ [])
      × (line_items d (name ++ 61 ∷ value_text value) ≡ setting name value ∷ [] → name_text name ≡ name)
  unfolding name_text
  name-exact = (
    (λ e. ap (λ (t : List ℕ). line_items d (t ++ 61 ∷ value_text value)) (bare e) ∙ read_as),
    (λ e. rw (name-bare d name value (value_text value) e) refl),
  )
    where
      bare : name_text name ≡ name → name ≡ name_text name
      bare e = rw e refl

  -- and so is a value
  pub value-exact : (value_text value ≡ value → line_items d (name_text name ++ 61 ∷ value) ≡ setting name value ∷ [])
      × (line_items d (name_text name ++ 61 ∷ value) ≡ setting name value ∷ [] → value_text value ≡ value)
  unfolding value_text
  value-exact = (
    (λ e. ap (λ (t : List ℕ). line_items d (name_text name ++ 61 ∷ t)) (bare e) ∙ read_as),
    (λ e. rw (value-bare d name value p e) refl),
  )
    where
      bare : value_text value ≡ value → value ≡ value_text value
      bare e = rw e refl

-- otherwise in double quotes, and in single ones where it has a double one
pub in-double : (s : List ℕ) → are_of (Not double_quote) s ≡ true
    → (is_bare_name s ≡ false → name_text s ≡ double_quote ∷ (s ++ double_quote ∷ [])) × (is_bare_value s ≡ false → value_text s ≡ double_quote ∷ (s ++ double_quote ∷ []))
unfolding name_text value_text quoted
in-double s e = ((λ h. rw (h, e) refl), (λ h. rw (h, e) refl))

pub in-single : (s : List ℕ) → are_of (Not double_quote) s ≡ false
    → (is_bare_name s ≡ false → name_text s ≡ single_quote ∷ (s ++ single_quote ∷ [])) × (is_bare_value s ≡ false → value_text s ≡ single_quote ∷ (s ++ single_quote ∷ []))
unfolding name_text value_text quoted
in-single s e = ((λ h. rw (h, e) refl), (λ h. rw (h, e) refl))

-- ---- the limits: each line, and the table

abbrev pub EachShort : List Item → Type 0
EachShort [] = Unit {0}
EachShort (i ∷ is) = (length (item_text i) ≤ 1000) × EachShort is

short-exact : (is : List Item) → (are_short is ≡ true → EachShort is) × (EachShort is → are_short is ≡ true)
unfolding are_short
short-exact [] = ((λ e. tt), (λ h. refl))
short-exact (i ∷ is) =
    let later = short-exact is in (
      (λ e. let t = (and-eq-true_iff (leb (length (item_text i)) max_line) (are_short is)).0 e in (leb-true (length (item_text i)) 1000 t.0, later.0 t.1)),
      (λ h. rw (le-leb (length (item_text i)) 1000 h.0, later.1 h.1) refl),
    )

pub fits-exact : (is : List Item) → (fits is ≡ true → EachShort is × (length (normal_text is) ≤ 49152)) × (EachShort is × (length (normal_text is) ≤ 49152) → fits is ≡ true)
unfolding fits
fits-exact is = (
  (λ e. let t = (and-eq-true_iff (are_short is) (leb (length (normal_text is)) max_table)).0 e in ((short-exact is).0 t.0, leb-true (length (normal_text is)) 49152 t.1)),
  (λ h. rw ((short-exact is).1 h.0, le-leb (length (normal_text is)) 49152 h.1) refl),
)

-- ---- what the call answers, in the order of its refusals

module _ (d : Dialect) (s buffer : List ℕ) where
  abbrev normal : List ℕ
  normal = normal_text (meaning_of d s)

  pub form-refuses : (f : TableFault) → table_of (of_user d) s ≡ Err f → normal_form d s buffer ≡ record { answer = Err f.refusal; buffer = buffer }
  unfolding normal_form unless_refused refused_form
  form-refuses f e = rw e refl

  module _ (good : refusal_in (table_of (of_user d) s) ≡ 0) where
    pub form-too-long : fits (meaning_of d s) ≡ false → normal_form d s buffer ≡ record { answer = Err TooLong; buffer = buffer }
    unfolding normal_form form_of refused_form
    form-too-long f = unless-good (table_of (of_user d) s) _ buffer good ∙ rw f refl

    pub form-no-room : fits (meaning_of d s) ≡ true → length buffer < length normal → normal_form d s buffer ≡ record { answer = Err TooShort; buffer = buffer }
    unfolding normal_form form_of form_over_front refused_form
    form-no-room f h = unless-good (table_of (of_user d) s) _ buffer good ∙ rw (f, lt-leb (length normal) (length buffer) h) refl

    pub form-writes : fits (meaning_of d s) ≡ true → length normal ≤ length buffer
        → normal_form d s buffer ≡ record { answer = Ok (length normal); buffer = normal ++ drop (length normal) buffer }
    unfolding normal_form form_of form_over_front over_front
    form-writes f h = unless-good (table_of (of_user d) s) _ buffer good ∙ rw (f, le-leb (length normal) (length buffer) h) refl
