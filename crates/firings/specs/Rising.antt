-- What the theorems say of a list (I1 to I4): what is in it, that it rises, and how great its count is.
-- Assumes nothing.
use Rattle.std.specs.Prelude.{◌≡◌, ◌⊎◌, List, [], ◌∷◌, ◌++◌, ℕ, ◌≤◌, ◌<◌, length, take, drop, Result, Ok, Err}
use Rattle.refusal.specs.declared.Refusal.{Refusal}
use Rattle.refusal.specs.Numbers.{number_of, IsRefusal}
use Rattle.calendar.specs.Dates.{last_minute}
use Rattle.crontab.specs.declared.table.Table.{Table}
use Rattle.crontab.specs.declared.table.TableFault.{TableFault}
use Rattle.firings.specs.declared.Filled.{Filled}
use Rattle.firings.specs.declared.Filled.TheVariants.{All, More}
use Rattle.firings.specs.Lists.{Firing, merged_of}
use Rattle.firings.specs.Calls.{max_places, minutes_of, entries_of}
use Rattle.crontab.specs.Tables.{refusal_in}

-- I1: is in a list
abbrev pub Among : {A : Type 0} → A → List A → Type 0
Among x [] = ⊥
Among x (y ∷ l) = (x ≡ y) ⊎ Among x l

-- I1, I2: each is before all that come later, and so is there once
abbrev pub Rises : {A : Type 0} → (A → A → Type 0) → List A → Type 0
Rises before [] = Unit {0}
Rises {A} before (x ∷ l) = ((y : A) → Among y l → before x y) × Rises before l

-- I2: by minute and then entry
abbrev pub Earlier : Firing → Firing → Type 0
Earlier f g = (f.minute < g.minute) ⊎ ((f.minute ≡ g.minute) × (f.entry < g.entry))

-- I1: just if
abbrev pub Exactly : Type 0 → Type 0 → Type 0
Exactly A B = (A → B) × (B → A)

-- I4, A2: a count is a 32-bit number, and a refusal's number is small
abbrev pub Few : Result Filled Refusal → Type 0
Few (Ok (All n)) = n ≤ max_places
Few (Ok (More n)) = n ≤ max_places
Few (Err refusal) = IsRefusal (number_of refusal)

-- R40: a refused call leaves a buffer as it was
abbrev pub Kept : Result Filled Refusal → List ℕ → List ℕ → Type 0
Kept (Ok filled) before after = Unit {0}
Kept (Err refusal) before after = after ≡ before

-- R37: the table is good and both minutes are on the calendar
pub record Given (t : Result Table TableFault) (a b : ℕ) : Type 0 where
  pub good : refusal_in t ≡ 0
  pub from : a ≤ last_minute
  pub to : b ≤ last_minute

-- I3, I4: the first n numbers of two buffers are the minutes and the entries of the first n firings of a list
pub record FirstOf (list : List Firing) (n : ℕ) (minutes entries : List ℕ) : Type 0 where
  pub few : n ≤ length list
  pub minutes-are : take n minutes ≡ take n (minutes_of list)
  pub entries-are : take n entries ≡ take n (entries_of list)

-- I3, I4: what an answer says of two buffers with so many places, after the call. A count that is all is the list's; if more remain, it is
-- the number of places, and the list is longer.
abbrev pub Runs : Result Table TableFault → ℕ → ℕ → ℕ → Result Filled Refusal → List ℕ → List ℕ → Type 0
Runs t a b room (Ok (All n)) minutes entries = Given t a b × FirstOf (merged_of t a b) n minutes entries × (n ≡ length (merged_of t a b)) × (n ≤ room)
Runs t a b room (Ok (More n)) minutes entries = Given t a b × FirstOf (merged_of t a b) n minutes entries × (n < length (merged_of t a b)) × (n ≡ room)
Runs t a b room (Err refusal) minutes entries = Unit {0}

-- I3, R40: all of a buffer with so many places, by the answer: the first numbers of a list, as many as are answered, and after them those
-- that were there. A refused call leaves it.
abbrev pub FilledBy : List ℕ → ℕ → List ℕ → Result Filled Refusal → List ℕ → Type 0
FilledBy numbers room before (Ok (All n)) after = (n ≡ length numbers) × (n ≤ room) × (after ≡ take n numbers ++ drop n before)
FilledBy numbers room before (Ok (More n)) after = (n < length numbers) × (n ≡ room) × (after ≡ take n numbers ++ drop n before)
FilledBy numbers room before (Err refusal) after = after ≡ before
