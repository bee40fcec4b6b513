-- Each single value of each of the five sets, and each flag, in the twenty bytes of a timed entry. The expected side is by B2 and B3: minutes from byte 0, hours
-- from byte 8, days from byte 12, months from byte 16, weekdays in byte 18, flags in byte 19; value n is bit n.
-- Assumes nothing.
use Rattle.std.specs.Prelude.{ℕ, ◌+◌, ◌/◌, ◌%◌, ◌^◌, ◌≡◌, refl, Bool, false, List, [], ◌∷◌, map, eqb, replicate}
use Rattle.octets.specs.Sets.{with_bit, with_all, set_of, up_to}
use Rattle.octets.specs.AllBytes.{with_byte, trying}
use Rattle.schedule.specs.declared.Stars.{Stars}
use Rattle.schedule.specs.declared.Schedule.{Schedule}
use Rattle.records.specs.Formats.{schedule_bytes}
use Rattle.records.specs.Readings.{schedule_at}
use Rattle.records.specs.Computing.{coding}

abbrev stars : Bool → Bool → Bool → Bool → Bool → Stars
stars a b c d e = record { minutes = a; hours = b; days = c; months = d; weekdays = e }

abbrev none : Stars
none = stars false false false false false

-- five sets
abbrev sets : ℕ → ℕ → ℕ → ℕ → ℕ → Stars → Schedule
sets minutes hours days months weekdays flags =
    record { minutes = minutes; hours = hours; days = days; months = months; weekdays = weekdays; stars = flags }

-- twenty bytes of which one isn't 0: bit n from a byte on
abbrev alone : ℕ → ℕ → List ℕ
alone from n = with_byte (replicate 20 0) (from + n / 8) (2 ^ (n % 8))

abbrev only : ℕ → ℕ
only n = set_of (n ∷ [])

-- written, and read again
abbrev Stand : (ℕ → Schedule) → ℕ → ℕ → ℕ → Type 0
Stand f first last from =
    (map (λ n. schedule_bytes (f n)) (up_to first last) ≡ map (alone from) (up_to first last))
    × (map (λ n. schedule_at (alone from n)) (up_to first last) ≡ map f (up_to first last))

minutes : Stand (λ n. sets (only n) 0 0 0 0 none) 0 59 0
unfolding trying coding with_bit with_all set_of
minutes = (refl, refl)

hours : Stand (λ n. sets 0 (only n) 0 0 0 none) 0 23 8
unfolding trying coding with_bit with_all set_of
hours = (refl, refl)

days : Stand (λ n. sets 0 0 (only n) 0 0 none) 1 31 12
unfolding trying coding with_bit with_all set_of
days = (refl, refl)

months : Stand (λ n. sets 0 0 0 (only n) 0 none) 1 12 16
unfolding trying coding with_bit with_all set_of
months = (refl, refl)

weekdays : Stand (λ n. sets 0 0 0 0 (only n) none) 0 6 18
unfolding trying coding with_bit with_all set_of
weekdays = (refl, refl)

-- the five flags
abbrev flagged : ℕ → Schedule
flagged n = sets 0 0 0 0 0 (stars (eqb n 0) (eqb n 1) (eqb n 2) (eqb n 3) (eqb n 4))

flags : Stand flagged 0 4 19
unfolding trying coding with_bit with_all set_of
flags = (refl, refl)
