-- For each word that claims about records are made of: what doesn't meet it, for each of its parts, and what just does.
-- Assumes nothing.
use Rattle.std.specs.Prelude.{ℕ, ◌≡◌, refl, false, List, [], ◌∷◌, length, get_or}
use Rattle.std.proofs.Common.{arith, ap, ◌∙◌}
use Rattle.std.proofs.lemmas.Bool.{false≢true}
use Rattle.refusal.specs.declared.Refusal.TheVariants.{CutShort, UnknownKind}
use Rattle.octets.specs.Texts.{text}
use Rattle.field.specs.declared.Dialect.{Dialect}
use Rattle.schedule.specs.declared.Schedule.{Schedule}
use Rattle.normal.specs.Meanings.{Item, setting, boot, timed}
use Rattle.records.specs.Formats.{kind_of, body_of}
use Rattle.records.specs.Readings.{skipped, refused, means}
use Rattle.records.specs.Writers.{LineMeans, Record, Framed, NotBad, Wide, Encodable, same, new, Keeps, as_record, Writer, ChangesNone}
use Rattle.records.specs.Computing.{coding}

-- ---- frames: a kind of two bytes, and a body that two bytes of length can say

not-framed : (body : List ℕ) → length body ≡ 65534
    → (Framed (record { kind = 65536; body = [] }) → ⊥) × (Framed (record { kind = 2; body = body }) → ⊥) × Framed (record { kind = 65535; body = [] })
not-framed body long = ((λ f. omega (arith, f.kind)), (λ f. omega (arith, f.body, long)), record { kind = omega arith; body = omega arith })

-- ---- what a body can say: each set in as many bytes as it has, and the length of a name in two

abbrev sets : ℕ → ℕ → ℕ → ℕ → ℕ → Schedule
sets minutes hours days months weekdays =
    record {
      minutes = minutes;
      hours = hours;
      days = days;
      months = months;
      weekdays = weekdays;
      stars = record { minutes = false; hours = false; days = false; months = false; weekdays = false };
    }

not_wide :
    (Wide (sets 18446744073709551616 1 2 2 1) → ⊥)
    × (Wide (sets 1 4294967296 2 2 1) → ⊥)
    × (Wide (sets 1 1 4294967296 2 1) → ⊥)
    × (Wide (sets 1 1 2 65536 1) → ⊥)
    × (Wide (sets 1 1 2 2 256) → ⊥)
not_wide = ((λ w. omega (arith, w.minutes)), (λ w. omega (arith, w.hours)), (λ w. omega (arith, w.days)), (λ w. omega (arith, w.months)), (λ w. omega (arith, w.weekdays)))

not-encodable : (name value : List ℕ) → length name ≡ 65536 → (Encodable (setting name value) → ⊥) × (Encodable (timed (sets 1 1 2 2 256) value) → ⊥)
not-encodable name value long = ((λ h. omega (arith, h, long)), (λ w. omega (arith, w.weekdays)))

-- ---- a later writer: kinds 1 to 4 are kept, each of them

abbrev of_kind : ℕ → Record
of_kind kind = record { kind = kind; body = [] }

not-kept : (Keeps (new (of_kind 1)) → ⊥) × (Keeps (new (of_kind 2)) → ⊥) × (Keeps (new (of_kind 3)) → ⊥) × (Keeps (new (of_kind 4)) → ⊥)
not-kept = ((λ k. k (omega arith) (omega arith)), (λ k. k (omega arith) (omega arith)), (λ k. k (omega arith) (omega arith)), (λ k. k (omega arith) (omega arith)))

-- each record that it sends, the last one too
not-writer :
    (Writer (new (of_kind 3) ∷ same (boot (text "x")) ∷ []) → ⊥)
    × (Writer (same (boot (text "x")) ∷ new (of_kind 5) ∷ new (of_kind 4) ∷ []) → ⊥)
    × (Writer (new (of_kind 65536) ∷ []) → ⊥)
unfolding as_record
not-writer = ((λ w. w.0 (omega arith) (omega arith)), (λ w. w.2.2.0 (omega arith) (omega arith)), (λ w. omega (arith, w.1.kind)))

changes-last : (ChangesNone (new (of_kind 5) ∷ []) → ⊥) × (ChangesNone (same (boot (text "x")) ∷ new (of_kind 65535) ∷ new (of_kind 0) ∷ []) → ⊥) × ChangesNone (same (boot (text "x")) ∷ new (of_kind 32768) ∷ [])
changes-last = ((λ h. omega (arith, h.0)), (λ h. omega (arith, h.1.0)), (omega arith, tt))

not-bad : NotBad skipped × NotBad (means (boot (text "x"))) × (NotBad (refused UnknownKind) → ⊥) × (NotBad (refused CutShort) → ⊥)
not-bad = (tt, tt, (λ h. h), (λ h. h))

-- ---- a line that means a body: `@reboot x`, in any dialect

boot-means : (d : Dialect) → LineMeans d 2 (text "x") (text "@reboot  x")
unfolding coding
boot-means d = record { clean = refl; item = boot (text "x"); items = refl; same_kind = refl; same_body = refl }

-- another kind, another body, a byte that no line has, a line that is refused, one that is ignored
abbrev first_kind : List Item → ℕ
first_kind [] = 0
first_kind (i ∷ is) = kind_of i

abbrev first_body : List Item → List ℕ
first_body [] = []
first_body (i ∷ is) = body_of i

not-means : (d : Dialect)
    → (LineMeans d 3 (text "x") (text "@reboot x") → ⊥)
    × (LineMeans d 2 (text "y") (text "@reboot x") → ⊥)
    × (LineMeans d 2 (text "x") (13 ∷ text "@reboot x") → ⊥)
    × (LineMeans d 2 (text "x") (text "@Reboot x") → ⊥)
    × (LineMeans d 2 (text "x") (text "#@reboot x") → ⊥)
    × (LineMeans d 3 (7 ∷ 0 ∷ text "CRON_TZ+01:00") (text "CRON_TZ=+01:00") → ⊥)
unfolding coding
not-means d = (
  (λ m. let e = ap first_kind m.items ∙ m.same_kind in omega (arith, e)),
  (λ m. let e = ap (λ (s : List ℕ). get_or s 0 0) (ap first_body m.items ∙ m.same_body) in omega (arith, e)),
  (λ m. false≢true m.clean),
  (λ m. let e = ap first_kind m.items ∙ m.same_kind in omega (arith, e)),
  (λ m. let e = ap first_kind m.items ∙ m.same_kind in omega (arith, e)),
  (λ m. let e = ap first_kind m.items ∙ m.same_kind in omega (arith, e)),
)
