-- `crontab::find::is_wanted_setting` meets its contract: it is the definition, case by case.
-- Assumes nothing.
use mathlib.Core.Path.{◌≡◌, refl}
use mathlib.Core.Bool.{false}
use mathlib.Core.Logic.{inl, inr}
use Rattle.crontab.specs.declared.item.Item.{Item}
use Rattle.crontab.specs.declared.item.Item.TheVariants as item
use Rattle.crontab.specs.Findings.{is_nothing, is_wanted_setting}
use Rattle.crontab.proofs.find.is_wanted_setting.Goals as goal
use Rattle.crontab.proofs.find.is_wanted_setting.Goals.{in-Nothing, in_default}

pub returns-in-SettingOn : goal.returns-in-SettingOn
unfolding is_wanted_setting
returns-in-SettingOn c = rw c.in-SettingOn.is

-- any other item
some : (x : Item) → (x ≡ item.Nothing → ⊥) → is_nothing x ≡ false
unfolding is_nothing
some item.Nothing h = absurd (h refl)
some (item.Setting name value) h = refl
some (item.Entry e) h = refl

pub returns-after-matches : goal.returns-after-matches
unfolding is_wanted_setting is_nothing
returns-after-matches c =
    rw c.in-SettingFrom.is
    (elim c.match-matches.branch [ in-Nothing w ↦ rw (w.matches-is, w.in-Nothing.is) | in_default w ↦ rw (w.matches-is, some c.args.found w.in_default.not-Nothing) ])

pub returns-in-Count : goal.returns-in-Count
unfolding is_wanted_setting
returns-in-Count c = elim c.in-Count.is [ inl x ↦ rw x | inr x ↦ rw x.1 ]
