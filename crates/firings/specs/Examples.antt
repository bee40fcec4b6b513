-- Lists of firings, checked by computing: rows of what is asked and what comes back, with the numbers that the buffers hold.
-- A run holds 1, 2, 3 and so on at first, so that one sees what stays.
-- Assumes nothing.
use Rattle.std.specs.Prelude.{refl, List, [], ◌∷◌, ◌++◌, ℕ, zero, suc, ◌≤◌, ◌<◌, get_or, Result, Ok, Err}
use Rattle.std.proofs.Common.{ap, inl, inr, arith}
use Rattle.refusal.specs.declared.Refusal.{Refusal}
use Rattle.refusal.specs.declared.Refusal.TheVariants.{OutOfLimits, NoSuchEntry, NotOnCalendar, AtBootOnly, CutTable}
use Rattle.octets.specs.Texts.{text}
use Rattle.octets.specs.Rows.{Hold}
use Rattle.field.specs.declared.Dialect.TheVariants.{Rising}
use Rattle.line.specs.declared.Kind.TheVariants.{User}
use Rattle.crontab.specs.declared.table.Table.{Table}
use Rattle.crontab.specs.declared.table.TableFault.{TableFault}
use Rattle.crontab.specs.Tables.{table_of}
use Rattle.firings.specs.declared.Filled.{Filled}
use Rattle.firings.specs.declared.Filled.TheVariants.{All, More}
use Rattle.firings.specs.Lists.{Firing}
use Rattle.firings.specs.Calls.{EntryStep, MergedStep, minutes_of, entries_of, firings_in, merged_in}
use Rattle.firings.specs.Rising.{Among, Rises, Earlier, Exactly, Few, Kept, FirstOf}
use Rattle.firings.specs.Computing.{listing}

unfoldable repeated : ℕ → List ℕ → List ℕ
repeated zero s = []
repeated (suc n) s = s ++ repeated n s

abbrev table_in : List ℕ → Result Table TableFault
table_in s = table_of (record { kind = User; dialect = Rising }) s

-- ---- of an entry: its number, a and b, and the run

abbrev told : EntryStep → Result Filled Refusal × List ℕ
told step = (step.answer, step.run)

abbrev asked : List ℕ → ℕ × ℕ × ℕ × List ℕ → Result Filled Refusal × List ℕ
asked s (i, a, b, run) = told (firings_in (table_in s) i a b run)

abbrev site : List ℕ
site = text "*/5 * * * * x\n@reboot y\n0 0 30 2 * z\nCRON_TZ=-00:07\n*/10 * * * * u\n"

of-an-entry : Hold (asked site)
    -- minute 5 isn't after a; 15 is not beyond b, and they fit exactly
    (((0, 5, 15, 1 ∷ 2 ∷ []), (Ok (All 2), 10 ∷ 15 ∷ []))
    -- those after them stay
    ∷ ((0, 4, 14, 1 ∷ 2 ∷ 3 ∷ 4 ∷ []), (Ok (All 2), 5 ∷ 10 ∷ 3 ∷ 4 ∷ []))
    -- one is too many
    ∷ ((0, 5, 15, 1 ∷ []), (Ok (More 1), 10 ∷ []))
    ∷ ((0, 5, 15, []), (Ok (More 0), []))
    ∷ ((0, 5, 9, []), (Ok (All 0), []))
    -- b isn't after a
    ∷ ((0, 10, 10, 1 ∷ []), (Ok (All 0), 1 ∷ []))
    ∷ ((0, 15, 10, 1 ∷ []), (Ok (All 0), 1 ∷ []))
    -- one that never fires, and one under an offset
    ∷ ((2, 0, 60, 1 ∷ []), (Ok (All 0), 1 ∷ []))
    ∷ ((3, 0, 27, 1 ∷ 2 ∷ 3 ∷ 4 ∷ []), (Ok (All 3), 7 ∷ 17 ∷ 27 ∷ 4 ∷ []))
    -- 13 before 14, 14 of a and of b, 14 before 15
    ∷ ((4, 4223371680, 0, 1 ∷ []), (Err NoSuchEntry, 1 ∷ []))
    ∷ ((0, 4223371680, 0, 1 ∷ []), (Err NotOnCalendar, 1 ∷ []))
    ∷ ((0, 0, 4223371680, 1 ∷ []), (Err NotOnCalendar, 1 ∷ []))
    ∷ ((1, 0, 4223371680, 1 ∷ []), (Err NotOnCalendar, 1 ∷ []))
    -- 14 of one whose low 32 bits are a minute
    ∷ ((0, 4294967301, 15, 1 ∷ []), (Err NotOnCalendar, 1 ∷ []))
    ∷ ((0, 5, 4294967311, 1 ∷ []), (Err NotOnCalendar, 1 ∷ []))
    ∷ ((1, 0, 10, 1 ∷ []), (Err AtBootOnly, 1 ∷ []))
    -- 15 where b isn't after a, and where nothing fits
    ∷ ((1, 10, 10, 1 ∷ []), (Err AtBootOnly, 1 ∷ []))
    ∷ ((1, 10, 0, []), (Err AtBootOnly, []))
    -- the calendar's last minutes
    ∷ ((0, 4223371669, 4223371679, 1 ∷ 2 ∷ []), (Ok (All 2), 4223371670 ∷ 4223371675 ∷ []))
    -- nothing fires after minute a up to the calendar's last: none, and not 17
    ∷ ((0, 4223371675, 4223371679, 1 ∷ []), (Ok (All 0), 1 ∷ []))
    ∷ ((0, 4223371679, 4223371679, 1 ∷ []), (Ok (All 0), 1 ∷ []))
    ∷ [])
unfolding listing
of-an-entry = refl

-- the table's own refusal comes first
of-a-refused-table : Hold (λ (s : List ℕ). asked s (4, 4223371680, 0, 1 ∷ []))
    ((text "61 * * * * x\n", (Err OutOfLimits, 1 ∷ []))
    ∷ (text "*/5 * * * * x", (Err CutTable, 1 ∷ []))
    ∷ [])
unfolding listing
of-a-refused-table = refl

-- ---- of a table: a and b, and the two runs

abbrev both : MergedStep → Result Filled Refusal × List ℕ × List ℕ
both step = (step.answer, step.minutes, step.entries)

abbrev merged : List ℕ → ℕ × ℕ × List ℕ × List ℕ → Result Filled Refusal × List ℕ × List ℕ
merged s (a, b, minutes, entries) = both (merged_in (table_in s) a b minutes entries)

abbrev four : List ℕ
four = 1 ∷ 2 ∷ 3 ∷ 4 ∷ []

-- the later line fires first; two fire together, in the order of the file; `@reboot` doesn't
abbrev three : List ℕ
three = text "*/2 * * * * x\n@reboot y\n3 * * * * u\n*/4 * * * * z\n"

of-a-table : Hold (merged three)
    (((1, 4, four, four), (Ok (All 4), 2 ∷ 3 ∷ 4 ∷ 4 ∷ [], 0 ∷ 2 ∷ 0 ∷ 3 ∷ []))
    -- the span ends between them; the last pair stays
    ∷ ((2, 4, four, four), (Ok (All 3), 3 ∷ 4 ∷ 4 ∷ 4 ∷ [], 2 ∷ 0 ∷ 3 ∷ 4 ∷ []))
    -- the shorter run counts, whichever it is, and a minute may be split
    ∷ ((2, 4, four, 1 ∷ 2 ∷ []), (Ok (More 2), 3 ∷ 4 ∷ 3 ∷ 4 ∷ [], 2 ∷ 0 ∷ []))
    ∷ ((2, 4, 1 ∷ 2 ∷ [], four), (Ok (More 2), 3 ∷ 4 ∷ [], 2 ∷ 0 ∷ 3 ∷ 4 ∷ []))
    -- nothing fits where one run is empty
    ∷ ((2, 4, four, []), (Ok (More 0), four, []))
    ∷ ((2, 4, [], four), (Ok (More 0), [], four))
    ∷ ((0, 1, [], four), (Ok (All 0), [], four))
    ∷ ((4, 4, four, four), (Ok (All 0), four, four))
    ∷ ((4, 3, four, four), (Ok (All 0), four, four))
    -- 14 of a, and of b
    ∷ ((4223371680, 0, four, four), (Err NotOnCalendar, four, four))
    ∷ ((0, 4223371680, four, four), (Err NotOnCalendar, four, four))
    ∷ ((4294967297, 4, four, four), (Err NotOnCalendar, four, four))
    ∷ ((1, 4294967300, four, four), (Err NotOnCalendar, four, four))
    ∷ [])
unfolding listing
of-a-table = refl

-- the table's own refusal comes first; a table with no entries has no firing
of-other-tables : Hold (λ (s : List ℕ). (merged s (4223371680, 0, four, four)).0)
    ((text "61 * * * * x\n", Err OutOfLimits)
    ∷ (text "A=b\n", Err NotOnCalendar)
    ∷ [])
unfolding listing
of-other-tables = refl

no-entries : Hold (λ (s : List ℕ). merged s (0, 3, four, four)) ((text "A=b\n", (Ok (All 0), four, four)) ∷ (text "@reboot x\n", (Ok (All 0), four, four)) ∷ [])
unfolding listing
no-entries = refl

-- Of 300 entries, the last two at minutes past 16 bits: `* * * * *` and `0 * * * *`, at 18:00 of day 46, minute 67,320, and a minute before it.
abbrev many : List ℕ
many = repeated 298 (text "@reboot x\n") ++ text "* * * * * y\n0 * * * * z\n"

of-many : Hold (merged many) (((67318, 67320, four, four), (Ok (All 3), 67319 ∷ 67320 ∷ 67320 ∷ 4 ∷ [], 298 ∷ 298 ∷ 299 ∷ 4 ∷ [])) ∷ [])
unfolding listing repeated
of-many = refl

-- ---- what the claims are made of: each is refused where it doesn't hold

abbrev two : List Firing
two = record { minute = 5; entry = 1 } ∷ record { minute = 6; entry = 0 } ∷ []

not_first :
    (FirstOf two 1 (6 ∷ []) (1 ∷ []) → ⊥)
    × (FirstOf two 1 (5 ∷ []) (0 ∷ []) → ⊥)
    × (FirstOf two 2 (5 ∷ 5 ∷ []) (1 ∷ 0 ∷ []) → ⊥)
    × (FirstOf two 3 (5 ∷ 6 ∷ 7 ∷ []) (1 ∷ 0 ∷ 0 ∷ []) → ⊥)
unfolding minutes_of entries_of
not_first = (
  (λ f. omega (arith, ap (λ (l : List ℕ). get_or l 0 0) f.minutes-are)),
  (λ f. omega (arith, ap (λ (l : List ℕ). get_or l 0 0) f.entries-are)),
  (λ f. omega (arith, ap (λ (l : List ℕ). get_or l 1 0) f.minutes-are)),
  (λ f. omega (arith, f.few)),
)

not-rising :
    (Rises (λ x y. x < y) (1 ∷ 1 ∷ []) → ⊥)
    × (Rises (λ x y. x < y) (1 ∷ 3 ∷ 2 ∷ []) → ⊥)
    × (Rises (λ x y. x < y) (3 ∷ 4 ∷ 2 ∷ []) → ⊥)
not-rising = (
  (λ r. omega (arith, r.0 1 (inl refl))),
  (λ r. omega (arith, r.1.0 2 (inl refl))),
  (λ r. omega (arith, r.0 2 (inr (inl refl)))),
)

-- by minute, and then by entry
not_earlier :
    (Earlier (record { minute = 5; entry = 1 }) (record { minute = 5; entry = 1 }) → ⊥)
    × (Earlier (record { minute = 5; entry = 1 }) (record { minute = 5; entry = 0 }) → ⊥)
    × (Earlier (record { minute = 6; entry = 0 }) (record { minute = 5; entry = 1 }) → ⊥)
not_earlier = (
  (λ x. elim x [ inl h ↦ omega arith | inr h ↦ omega (arith, h.1) ]),
  (λ x. elim x [ inl h ↦ omega arith | inr h ↦ omega (arith, h.1) ]),
  (λ x. elim x [ inl h ↦ omega arith | inr h ↦ omega (arith, h.0) ]),
)

-- both ways
not-exactly : (Exactly (1 ≤ 1) (2 ≤ 1) → ⊥) × (Exactly (2 ≤ 1) (1 ≤ 1) → ⊥)
not-exactly = ((λ e. omega (arith, e.0 (omega arith))), (λ e. omega (arith, e.1 (omega arith))))

not-among : (Among {A = ℕ} 3 (1 ∷ 2 ∷ []) → ⊥) × (Among {A = ℕ} 1 [] → ⊥)
not-among = ((λ m. elim m [ inl e ↦ omega (arith, e) | inr n ↦ elim n [ inl e ↦ omega (arith, e) | inr z ↦ z ] ]), (λ m. m))

not-kept : (Kept (Err NotOnCalendar) (1 ∷ 2 ∷ []) (1 ∷ 3 ∷ []) → ⊥) × (Few (Ok (All 4294967296)) → ⊥) × (Few (Ok (More 4294967296)) → ⊥)
not-kept = (
  (λ e. omega (arith, ap (λ (l : List ℕ). get_or l 1 0) e)),
  (λ h. omega arith),
  (λ h. omega arith),
)
