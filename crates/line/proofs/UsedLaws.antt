-- Laws of lines that nothing else uses, used for any bytes and any lengths: a hypothesis more, or a part less of a conclusion, breaks one of these.
-- Assumes nothing.
use Rattle.std.specs.Prelude.{Some, None, Option, ℤ, Ok}
use mathlib.Core.Path.{◌≡◌, refl}
use mathlib.Core.Bool.{true}
use mathlib.Core.List.{List, [], ◌∷◌, ◌++◌}
use Prim.Native.Nat.{ℕ, ◌+◌, ◌≤◌, ◌<◌}
use native.Mathlib.Omega.{arith}
use lib.ListN.{length, get_or}
use Rattle.octets.specs.Texts.{text}
use Rattle.octets.specs.declared.class.Class.TheVariants.{Solid, Blank, Account}
use Rattle.octets.specs.Runs.{run, are_of, skipped}
use Rattle.octets.proofs.Places.{Stands}
use Rattle.field.specs.declared.Dialect.{Dialect}
use Rattle.line.specs.declared.Rules.{Rules}
use Rattle.line.specs.declared.Kind.{Kind}
use Rattle.line.specs.declared.Kind.TheVariants.{User, System}
use Rattle.line.specs.declared.Part.{Part}
use Rattle.line.specs.declared.Line.TheVariants.{Setting}
use Rattle.line.specs.declared.time.When.{When}
use Rattle.line.specs.Assignments.{found, part_bytes}
use Rattle.line.specs.Entries.{time_at}
use Rattle.line.specs.Lines.{read_line}
use Rattle.line.specs.Offsets.{offset_of}
use Rattle.line.specs.Users.{column_of, account_at, column_at}
use Rattle.line.specs.Words.{word_of}
use Rattle.line.proofs.LineViews.{content_start}
use Rattle.line.proofs.KindsDialects.{with_column, system-line, with_when, dialect-line}
use Rattle.line.proofs.ExactWords.{AnyOf, known-word, offset-name}
use Rattle.line.proofs.FiveFields.{Spaced}
use Rattle.line.proofs.Columns.{account-there, with-both}
use Rattle.line.specs.Times.{time_of}

abbrev under : Kind → Dialect → Rules
under k d = record { kind = k; dialect = d }

-- kinds and dialects
pub system-any : (d : Dialect) (s : List ℕ) → read_line (under System d) s ≡ with_column s (read_line (under User d) s)
system-any d s = system-line d s

pub dialect-any : (k : Kind) (d e : Dialect) (s : List ℕ) {when other : When} {next end : ℕ}
    → time_at d s (content_start s) ≡ time_of when next → time_at e s (content_start s) ≡ time_of other end
    → read_line (under k e) s ≡ with_when other (read_line (under k d) s)
dialect-any k d e s p q = dialect-line k d e s p q

-- words and the name with a meaning
pub known-any : (s : List ℕ) {when : When} → word_of s ≡ Some when
    → AnyOf s (text "@reboot" ∷ text "@yearly" ∷ text "@annually" ∷ text "@monthly" ∷ text "@weekly" ∷ text "@daily" ∷ text "@midnight" ∷ text "@hourly" ∷ [])
known-any s e = known-word s e

pub offset-any : (rules : Rules) (s : List ℕ) {name value : Part} {z : Option ℤ} → read_line rules s ≡ Ok (Setting name value z)
    → (part_bytes s name ≡ text "CRON_TZ" → z ≡ Some (offset_of (part_bytes s value)))
    × ((part_bytes s name ≡ text "CRON_TZ" → ⊥) → z ≡ None)
offset-any rules s e = let o = offset-name rules s e in (o.0, o.1)

-- a field of any length, with any blanks after it, is one of those that FiveFields is about
pub spaced-any : (f b r : List ℕ) → 0 < length f → are_of Solid f ≡ true → are_of Blank b ≡ true → run Solid (b ++ r) ≡ 0 → run Blank r ≡ 0
    → Spaced (f ++ (b ++ r)) 0 f (length f + length b)
spaced-any f b r some solid blank ends stops =
    record { blanks = b; rest = r; here = record { is = refl }; some = some; solid = solid; blank = blank; ends = ends; stops = stops; goes_on = omega arith }

-- a user of 32 bytes, and one with group and class
pub account-any : {s : List ℕ} {at x : ℕ} {n r : List ℕ} → Stands s at (x ∷ n) r → are_of Account (x ∷ n) ≡ true → run Account r ≡ 0
    → length (x ∷ n) ≤ 32 → (x ≡ 45 → ⊥) → account_at s at ≡ found (record { start = at; end = at + length (x ∷ n) }) (at + length (x ∷ n))
account-any here are ends few other = account-there here are ends few other

pub both-any : (s : List ℕ) (at : ℕ) {user group class : Part} {p q r : ℕ} → account_at s at ≡ found user p → get_or s p 0 ≡ 58
    → account_at s (p + 1) ≡ found group q → get_or s q 0 ≡ 47 → account_at s (q + 1) ≡ found class r → skipped Solid s r ≡ r
    → column_at s at ≡ column_of (record { user = user; group = group; class = class }) r
both-any s at first colon second slash third end = with-both s at first colon second slash third end
