-- Dates that don't exist, each for one of its parts, beside those that just do; and what isn't earlier.
-- Assumes nothing.
use Rattle.std.specs.Prelude.{refl, Bool, true, false, [], ◌∷◌, map, ℕ, ◌≡◌}
use Rattle.std.proofs.Common.{inl, inr, arith}
use Rattle.calendar.specs.Dates.{exists}
use Rattle.calendar.specs.Order.{Earlier}
use Rattle.calendar.specs.Computing.{dating}

abbrev existing : ℕ × ℕ × ℕ × ℕ × ℕ → Bool
existing (year, month, day, hour, minute) = exists year month day hour minute

-- the last day of each month, in a common year and in leap ones
good : map existing
    ((1970, 1, 31, 23, 59) ∷ (1971, 2, 28, 0, 0) ∷ (1972, 2, 29, 0, 0) ∷ (2000, 2, 29, 0, 0) ∷ (1970, 3, 31, 0, 0) ∷ (1970, 4, 30, 0, 0) ∷ (1970, 5, 31, 0, 0)
    ∷ (1970, 6, 30, 0, 0) ∷ (1970, 7, 31, 0, 0) ∷ (1970, 8, 31, 0, 0) ∷ (1970, 9, 30, 0, 0) ∷ (1970, 10, 31, 0, 0) ∷ (1970, 11, 30, 0, 0) ∷ (1970, 12, 31, 0, 0)
    ∷ (9999, 12, 31, 23, 59) ∷ [])
    ≡ true ∷ true ∷ true ∷ true ∷ true ∷ true ∷ true ∷ true ∷ true ∷ true ∷ true ∷ true ∷ true ∷ true ∷ true ∷ []
unfolding dating
good = refl

-- the day after each, day 0, months 0 and 13, hour 24, minute 60, and numbers that are good only in their low 8 or 32 bits
none : map existing
    ((1970, 1, 32, 0, 0) ∷ (1971, 2, 29, 0, 0) ∷ (1972, 2, 30, 0, 0) ∷ (2100, 2, 29, 0, 0) ∷ (1970, 3, 32, 0, 0) ∷ (1970, 4, 31, 0, 0) ∷ (1970, 5, 32, 0, 0)
    ∷ (1970, 6, 31, 0, 0) ∷ (1970, 7, 32, 0, 0) ∷ (1970, 8, 32, 0, 0) ∷ (1970, 9, 31, 0, 0) ∷ (1970, 10, 32, 0, 0) ∷ (1970, 11, 31, 0, 0) ∷ (1970, 12, 32, 0, 0)
    ∷ (1970, 1, 0, 0, 0) ∷ (1970, 0, 1, 0, 0) ∷ (1970, 13, 1, 0, 0) ∷ (1970, 1, 1, 24, 0) ∷ (1970, 1, 1, 0, 60)
    ∷ (1970, 257, 1, 0, 0) ∷ (1970, 1, 257, 0, 0) ∷ (1970, 1, 1, 256, 0) ∷ (1970, 1, 1, 0, 256) ∷ (1970, 1, 1, 0, 4294967296) ∷ [])
    ≡ false ∷ false ∷ false ∷ false ∷ false ∷ false ∷ false ∷ false ∷ false ∷ false ∷ false ∷ false ∷ false ∷ false
    ∷ false ∷ false ∷ false ∷ false ∷ false ∷ false ∷ false ∷ false ∷ false ∷ false ∷ []
unfolding dating
none = refl

-- a later year with an earlier month; the same year with a later day; what ends first, either way
not_earlier :
    (Earlier (2001 ∷ 1 ∷ []) (2000 ∷ 2 ∷ []) → ⊥)
    × (Earlier (2000 ∷ 3 ∷ []) (2000 ∷ 2 ∷ []) → ⊥)
    × (Earlier (2000 ∷ []) (2000 ∷ 2 ∷ []) → ⊥)
    × (Earlier (2000 ∷ 2 ∷ []) (2000 ∷ []) → ⊥)
unfolding Earlier
not_earlier = (
  (λ x. elim x [ inl h ↦ omega arith | inr h ↦ omega (arith, h.0) ]),
  (λ x. elim x [ inl h ↦ omega arith | inr h ↦ elim h.1 [ inl i ↦ omega arith | inr i ↦ omega (arith, i.0) ] ]),
  (λ x. elim x [ inl h ↦ omega arith | inr h ↦ h.1 ]),
  (λ x. elim x [ inl h ↦ omega arith | inr h ↦ h.1 ]),
)
