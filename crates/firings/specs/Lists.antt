-- The firings of an entry after a minute and up to another (I1), and those of a whole table (I2). Boot entries have none (M4).
-- Assumes nothing.
use Rattle.std.specs.Prelude.{ℕ, zero, suc, ◌+◌, ◌-◌, Bool, List, [], ◌++◌, map, get_or, Result}
use Rattle.crontab.specs.declared.entry.Entry.{Entry}
use Rattle.crontab.specs.declared.table.Table.{Table}
use Rattle.crontab.specs.declared.table.TableFault.{TableFault}
use Rattle.crontab.specs.Tables.{blank_entry, count_in, table_entries}
use Rattle.crontab.specs.Firings.{fires_at}
use Rattle.octets.specs.Passing.{passing, passing_up_to}

-- I1, I5: the firings of an entry after minute a and up to minute b
unfoldable pub firings_of : Entry → ℕ → ℕ → List ℕ
firings_of e a b = passing_up_to (fires_at e) b (a + 1)

-- ---- by minute and then entry, where it is known which entry fires at which minute

-- I2: a minute and an entry
pub record Firing : Type 0 where
  pub minute : ℕ
  pub entry : ℕ

-- I2: entries that fire at a minute
unfoldable pub at_minute : ℕ → List ℕ → List Firing
at_minute m entries = map (λ i. record { minute = m; entry = i }) entries

-- I2: those from number i on
unfoldable pub entries_from : (ℕ → ℕ → Bool) → ℕ → ℕ → ℕ → List ℕ
entries_from fires count m i = passing (λ e. fires e m) (count - i) i

-- I2: n minutes from m on
unfoldable pub merged_over : (ℕ → ℕ → Bool) → ℕ → ℕ → ℕ → List Firing
merged_over fires count zero m = []
merged_over fires count (suc n) m = at_minute m (entries_from fires count m 0) ++ merged_over fires count n (suc m)

-- I2: the minutes from m on and up to b
unfoldable pub merged_up_to : (ℕ → ℕ → Bool) → ℕ → ℕ → ℕ → List Firing
merged_up_to fires count b m = merged_over fires count (b + 1 - m) m

-- ---- of a table

-- I2: whether an entry fires at a minute, by its number
unfoldable pub fires_in : List Entry → ℕ → ℕ → Bool
fires_in entries i m = fires_at (get_or entries i blank_entry) m

-- I2, I5: after minute a and up to minute b
unfoldable pub merged_of : Result Table TableFault → ℕ → ℕ → List Firing
merged_of t a b = merged_up_to (fires_in (table_entries t)) (count_in t) b (a + 1)
