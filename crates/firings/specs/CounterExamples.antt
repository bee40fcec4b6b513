-- What is said of lists and their runs, where it doesn't hold: each word is refused for each of its parts. (`Rises`, `Earlier`, `Exactly`, `Among`, `Kept` and
-- `FirstOf` are in Examples.)
-- Assumes nothing.
use Rattle.std.specs.Prelude.{List, [], ◌∷◌, get_or, ℕ, Ok, Err, Result}
use Rattle.std.proofs.Common.{arith, ap}
use Rattle.refusal.specs.declared.Refusal.TheVariants.{NotOnCalendar}
use Rattle.octets.specs.Texts.{text}
use Rattle.field.specs.declared.Dialect.TheVariants.{Rising}
use Rattle.line.specs.declared.Kind.TheVariants.{User}
use Rattle.crontab.specs.declared.table.Table.{Table}
use Rattle.crontab.specs.declared.table.TableFault.{TableFault}
use Rattle.crontab.specs.Tables.{table_of}
use Rattle.firings.specs.declared.Filled.TheVariants.{All, More}
use Rattle.firings.specs.Rising.{Given, Runs, FilledBy}
use Rattle.firings.specs.Computing.{listing}

abbrev table_in : List ℕ → Result Table TableFault
table_in s = table_of (record { kind = User; dialect = Rising }) s

abbrev every_minute : Result Table TableFault
every_minute = table_in (text "* * * * * x\n")

-- a refused table, and either minute off the calendar
not-given :
    (Given (table_in (text "60\n")) 0 0 → ⊥) × (Given every_minute 4223371680 4223371679 → ⊥) × (Given every_minute 4223371679 4223371680 → ⊥)
unfolding listing
not-given = ((λ g. omega (arith, g.good)), (λ g. omega (arith, g.from)), (λ g. omega (arith, g.to)))

-- Two firings, at 1 and at 2. All: a count that is less, another minute, no room; more: where none is left, and with room left; and a refused table.
not-runs :
    (Runs every_minute 0 2 2 (Ok (All 1)) (1 ∷ 2 ∷ []) (0 ∷ 0 ∷ []) → ⊥)
    × (Runs every_minute 0 2 1 (Ok (All 2)) (1 ∷ 2 ∷ []) (0 ∷ 0 ∷ []) → ⊥)
    × (Runs every_minute 0 2 2 (Ok (All 3)) (1 ∷ 2 ∷ []) (0 ∷ 0 ∷ []) → ⊥)
    × (Runs every_minute 0 2 2 (Ok (More 2)) (1 ∷ 2 ∷ []) (0 ∷ 0 ∷ []) → ⊥)
    × (Runs every_minute 0 2 2 (Ok (More 1)) (1 ∷ 2 ∷ []) (0 ∷ 0 ∷ []) → ⊥)
    × (Runs every_minute 0 4223371680 1 (Ok (More 1)) (1 ∷ []) (0 ∷ []) → ⊥)
    × (Runs (table_in (text "60\n")) 0 2 2 (Ok (All 0)) [] [] → ⊥)
unfolding listing
not-runs = (
  (λ r. omega (arith, r.2)),
  (λ r. omega (arith, r.3)),
  (λ r. omega (arith, r.1.few)),
  (λ r. omega (arith, r.2)),
  (λ r. omega (arith, r.3)),
  (λ r. omega (arith, r.0.to)),
  (λ r. omega (arith, r.0.good)),
)

-- Two numbers in a run of three: a count that is less, another number, one after them changed; more where none is left, or where there is room; a refusal that
-- changes one.
not-filled :
    (FilledBy (5 ∷ 6 ∷ []) 3 (7 ∷ 8 ∷ 9 ∷ []) (Ok (All 1)) (5 ∷ 8 ∷ 9 ∷ []) → ⊥)
    × (FilledBy (5 ∷ 6 ∷ []) 3 (7 ∷ 8 ∷ 9 ∷ []) (Ok (All 2)) (5 ∷ 8 ∷ 9 ∷ []) → ⊥)
    × (FilledBy (5 ∷ 6 ∷ []) 3 (7 ∷ 8 ∷ 9 ∷ []) (Ok (All 2)) (5 ∷ 6 ∷ 0 ∷ []) → ⊥)
    × (FilledBy (5 ∷ 6 ∷ []) 1 (7 ∷ []) (Ok (All 2)) (5 ∷ 6 ∷ []) → ⊥)
    × (FilledBy (5 ∷ 6 ∷ []) 2 (7 ∷ 8 ∷ []) (Ok (More 2)) (5 ∷ 6 ∷ []) → ⊥)
    × (FilledBy (5 ∷ 6 ∷ []) 2 (7 ∷ 8 ∷ []) (Ok (More 1)) (5 ∷ 8 ∷ []) → ⊥)
    × (FilledBy (5 ∷ 6 ∷ []) 1 (7 ∷ 8 ∷ []) (Ok (More 1)) (5 ∷ 0 ∷ []) → ⊥)
    × (FilledBy (5 ∷ 6 ∷ []) 1 (7 ∷ []) (Err NotOnCalendar) (5 ∷ []) → ⊥)
not-filled = (
  (λ f. omega (arith, f.0)),
  (λ f. omega (arith, ap (λ (l : List ℕ). get_or l 1 0) f.2)),
  (λ f. omega (arith, ap (λ (l : List ℕ). get_or l 2 0) f.2)),
  (λ f. omega (arith, f.1)),
  (λ f. omega (arith, f.0)),
  (λ f. omega (arith, f.1)),
  (λ f. omega (arith, ap (λ (l : List ℕ). get_or l 1 0) f.2)),
  (λ f. omega (arith, ap (λ (l : List ℕ). get_or l 0 0) f)),
)
