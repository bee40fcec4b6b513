-- The kind of each item's record: 1, 2 and 3 (B2, B4, B5), and 4 (B6) for a setting whose name is `CRON_TZ`, and for no other.
-- Assumes nothing.
use mathlib.Core.Path.{◌≡◌, refl}
use mathlib.Core.Bool.{Bool, true, false, cond}
use mathlib.Core.List.{List}
use Prim.Native.Nat.{ℕ}
use Rattle.octets.specs.Texts.{text}
use Rattle.schedule.specs.declared.Schedule.{Schedule}
use Rattle.line.specs.Words.{same}
use Rattle.line.proofs.Theorems.{same-is, same-itself}
use Rattle.normal.specs.Meanings.{setting, boot, timed}
use Rattle.records.specs.Formats.{setting_kind_of, kind_of}

pub kind-is : ((s : Schedule) (command : List ℕ) → kind_of (timed s command) ≡ 1)
    × ((command : List ℕ) → kind_of (boot command) ≡ 2)
    × ((name value : List ℕ) → (name ≡ text "CRON_TZ" → kind_of (setting name value) ≡ 4) × ((name ≡ text "CRON_TZ" → ⊥) → kind_of (setting name value) ≡ 3))
unfolding kind_of setting_kind_of
kind-is = ((λ s command. refl), (λ command. refl), (λ name value. ((λ e. rw (e, same-itself (text "CRON_TZ")) refl), (λ n. go name n (same name (text "CRON_TZ")) refl))))
  where
    go : (name : List ℕ) → (name ≡ text "CRON_TZ" → ⊥) → (t : Bool) → same name (text "CRON_TZ") ≡ t → ◌≡◌ {A = ℕ} (cond t 4 3) 3
    go name n true e = absurd (n (same-is name (text "CRON_TZ") e))
    go name n false e = refl
