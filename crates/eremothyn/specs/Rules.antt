-- Kind and dialect as C hands them in (A6).
-- Assumes nothing.
use Rattle.std.specs.Prelude.{ℕ, zero, suc}
use Rattle.field.specs.declared.Dialect.{Dialect}
use Rattle.field.specs.declared.Dialect.TheVariants.{Rising, Wrapping}
use Rattle.line.specs.declared.Kind.{Kind}
use Rattle.line.specs.declared.Kind.TheVariants.{User, System}
use Rattle.line.specs.declared.Rules.{Rules}

-- A6: 0 is a user table, any other number a system table
abbrev pub kind_of : ℕ → Kind
kind_of zero = User
kind_of (suc n) = System

-- A6: 0 is rising, any other number wrapping
abbrev pub dialect_of : ℕ → Dialect
dialect_of zero = Rising
dialect_of (suc n) = Wrapping

-- A6, T8: both
abbrev pub rules_of : ℕ → ℕ → Rules
rules_of kind dialect = record { kind = kind_of kind; dialect = dialect_of dialect }
