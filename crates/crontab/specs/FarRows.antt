-- Rows far from a table's begin: line numbers, places and columns past 10, 12 and 15 bits, under both kinds and dialects; and settings of tables that
-- are refused.
-- Assumes nothing.
use Rattle.std.specs.Prelude.{Err, ℕ, ◌≡◌, refl, List, [], ◌∷◌, ◌++◌, replicate, negsuc, Ok}
use Rattle.refusal.specs.declared.Refusal.TheVariants.{OutOfLimits, NoSetting, BadOffset, CutTable}
use Rattle.octets.specs.Texts.{text}
use Rattle.octets.specs.Rows.{Hold}
use Rattle.field.specs.declared.Dialect.TheVariants.{Rising, Wrapping}
use Rattle.line.specs.declared.Part.{Part}
use Rattle.line.specs.declared.Rules.{Rules}
use Rattle.line.specs.declared.Kind.TheVariants.{User, System}
use Rattle.line.specs.declared.time.When.TheVariants.{Reboot}
use Rattle.crontab.specs.Owners.{owner_in}
use Rattle.crontab.specs.Items.{items_of}
use Rattle.crontab.specs.Tables.{table_of, entry_in, column_in, count_in, line_in, refusal_in}
use Rattle.crontab.specs.Settings.{shown, setting_in, next_line_in}
use Rattle.crontab.specs.Computing.{reading}

abbrev in_first : Rules
in_first = record { kind = User; dialect = Rising }

abbrev in_second : Rules
in_second = record { kind = System; dialect = Wrapping }

abbrev part : ℕ → ℕ → Part
part start end = record { start = start; end = end }

-- ---- the last lines that a table can have

-- the refusal, its line and column, and the count of entries
abbrev fault : Rules → List ℕ → List ℕ
fault rules s = let t = table_of rules s in refusal_in t ∷ line_in t ∷ column_in t ∷ count_in t ∷ []

-- line 49,152, without a newline
far-fault : fault in_second (replicate 49151 10 ++ text "#") ≡ 26 ∷ 49152 ∷ 2 ∷ 0 ∷ []
unfolding reading
far-fault = refl

-- ---- after many empty lines

-- name and value past place 32,768
far-setting : setting_in (items_of in_first (replicate 33000 10 ++ text " A = b \n")) 33001 ≡ Ok (record { name = part 33001 33002; value = part 33005 33006 })
unfolding reading
far-setting = refl

-- an entry under the offset before it, and its owner's parts, after 4,200
abbrev far : List ℕ
far = replicate 4200 10 ++ text "CRON_TZ=-12:00\n @reboot  u:g/c x \nA=b\n"

far-entry : entry_in (table_of in_second far) 0 ≡ Ok (record { when = Reboot; line = 4202; at = 4215; start = 4231; end = 4233; offset = negsuc 719 })
unfolding reading
far-entry = refl

far-owner : owner_in in_second far 0 ≡ Ok (record { user = part 4225 4226; group = part 4227 4228; class = part 4229 4230 })
unfolding reading
far-owner = refl

far-next : next_line_in (items_of in_second far) 4202 ≡ Ok 4203
unfolding reading
far-next = refl

-- ---- settings of a table that is refused, whether it is a line before the fault, its own line or one after it

refused-tables : Hold (λ (s : List ℕ). setting_in (items_of in_first s) 1 ∷ setting_in (items_of in_first s) 2 ∷ [])
    ((text "A=b\n60\n", Err OutOfLimits ∷ Err OutOfLimits ∷ [])
    ∷ (text "60\nA=b\n", Err OutOfLimits ∷ Err OutOfLimits ∷ [])
    ∷ (text "A=b\nC=d", Err CutTable ∷ Err CutTable ∷ [])
    ∷ (text "A=b\nCRON_TZ=x\n", Err BadOffset ∷ Err BadOffset ∷ [])
    ∷ (text "A=b\n@reboot x\n", shown (part 0 1) (part 2 3) ∷ Err NoSetting ∷ [])
    ∷ ([], Err NoSetting ∷ Err NoSetting ∷ [])
    ∷ [])
unfolding reading
refused-tables = refl
