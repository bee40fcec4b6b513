-- What one search in a table finds: an item that is wanted, or the fault that refuses the table. What a reader must believe of entries and
-- settings is in Tables and Settings.
-- Assumes nothing.
use Rattle.std.specs.Prelude.{ℕ, ◌+◌, Bool, true, false, cond, ◌&&◌, eqb, leb, Result, Ok, Err}
use Rattle.crontab.specs.declared.table.TableFault.{TableFault}
use Rattle.crontab.specs.declared.item.Item.{Item}
use Rattle.crontab.specs.declared.item.Item.TheVariants as item
use Rattle.crontab.specs.declared.find.Wanted.{Wanted}
use Rattle.crontab.specs.declared.find.Wanted.TheVariants as wanted
use Rattle.crontab.specs.declared.find.Finding.{Finding}
use Rattle.crontab.specs.Items.{Items, done, fault, setting, entry}

unfoldable pub is_nothing : Item → Bool
is_nothing item.Nothing = true
is_nothing (item.Setting name value) = false
is_nothing (item.Entry e) = false

-- the setting of a line, after what was found so far
unfoldable pub is_wanted_setting : Wanted → Item → ℕ → Bool
is_wanted_setting wanted.Count found line = false
is_wanted_setting (wanted.Entry n) found line = false
is_wanted_setting (wanted.SettingOn n) found line = eqb line n
is_wanted_setting (wanted.SettingFrom n) found line = is_nothing found && leb n line

-- the entry of number k
unfoldable pub is_wanted_entry : Wanted → ℕ → Bool
is_wanted_entry wanted.Count k = false
is_wanted_entry (wanted.Entry n) k = eqb k n
is_wanted_entry (wanted.SettingOn n) k = false
is_wanted_entry (wanted.SettingFrom n) k = false

-- the item of a line, after k entries
unfoldable pub is_wanted : Wanted → Item → ℕ → ℕ → Item → Bool
is_wanted w found line k item.Nothing = false
is_wanted w found line k (item.Setting name value) = is_wanted_setting w found line
is_wanted w found line k (item.Entry e) = is_wanted_entry w k

-- the item if it is wanted, or what was found so far
unfoldable pub found_or : Wanted → Finding → ℕ → ℕ → Item → Finding
found_or w found line k x = cond (is_wanted w found.item line k x) (record { item = x; line = line; count = 0 }) found

-- what is found in the end, after k entries; a fault refuses the table whole
unfoldable pub finding_from : Wanted → Finding → ℕ → Items → Result Finding TableFault
finding_from w found k done = Ok (record { item = found.item; line = found.line; count = k })
finding_from w found k (fault refusal line column) = Err (record { refusal = refusal; line = line; column = column })
finding_from w found k (setting line name value later) = finding_from w (found_or w found line k (item.Setting name value)) k later
finding_from w found k (entry e later) = finding_from w (found_or w found e.line k (item.Entry e)) (k + 1) later

abbrev pub nothing : Finding
nothing = record { item = item.Nothing; line = 0; count = 0 }

unfoldable pub finding_of : Wanted → Items → Result Finding TableFault
finding_of w items = finding_from w nothing 0 items
