-- Limits such as the five fields have.
-- Assumes nothing.
use mathlib.Core.Path.{◌≡◌, refl}
use mathlib.Core.Bool.{Bool, true, false, cond}
use Prim.Native.Nat.{ℕ, suc, ◌+◌, ◌-◌, ◌≤◌, ◌<◌}
use native.Mathlib.Omega.{arith}
use borrow.Author.Rules.{rules}
use lib.Dec.{ltb}
use borrow.Author.Tests.{ltb-true, ltb-false}
use Rattle.field.specs.declared.Limits.{Limits}
use Rattle.field.specs.declared.Dialect.{Dialect}
use Rattle.field.specs.declared.Dialect.TheVariants.{Rising, Wrapping}
use Rattle.field.specs.Limits.{minute_limits, hour_limits, day_limits, month_limits, weekday_limits, in_dialect}
use Rattle.field.specs.Values.{bit_of}

pub record Usual (l : Limits) : Type 0 where
  pub order : l.first ≤ l.last
  -- values have two digits at most, and a word has bits for them
  pub word : l.last < 64
  -- no bit is past the values
  pub within : l.bits ≤ suc l.last
  -- and each has one of its own, but for one at most that is the first again
  pub enough : l.last ≤ l.bits
  pub some : l.first < l.bits

-- the bit of a value, up to once round the field, is a value of its own
pub bit-value : (l : Limits) (v : ℕ) → l.first ≤ v → v + l.first < l.bits + l.bits → (l.first ≤ bit_of l v) × (bit_of l v < l.bits)
unfolding bit_of
bit-value l v h k = go (ltb v l.bits) refl
  where
    go : (t : Bool) → ltb v l.bits ≡ t → (l.first ≤ cond t v (l.first + (v - l.bits))) × (cond t v (l.first + (v - l.bits)) < l.bits)
    go true e = (h, ltb-true v l.bits e)
    go false e = let b = ltb-false v l.bits e in (omega arith, omega arith)

-- the five fields

pub minute-usual : Usual minute_limits
minute-usual = search rules

pub hour-usual : Usual hour_limits
hour-usual = search rules

pub day-usual : Usual day_limits
day-usual = search rules

pub month-usual : Usual month_limits
month-usual = search rules

pub weekday-usual : Usual weekday_limits
weekday-usual = search rules

-- in either dialect

pub dialect-usual : (l : Limits) → Usual l → (d : Dialect) → Usual (in_dialect d l)
unfolding in_dialect
dialect-usual l u Rising = u
dialect-usual l u Wrapping =
    record {
      order = omega (arith, u.some);
      word = omega (arith, u.some, u.within, u.word);
      within = omega (arith, u.some);
      enough = omega arith;
      some = u.some;
    }

pub dialect-bits : (l : Limits) (d : Dialect) → (in_dialect d l).bits ≡ l.bits
unfolding in_dialect
dialect-bits l Rising = refl
dialect-bits l Wrapping = refl
