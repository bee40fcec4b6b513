-- Where each of the 256 bytes leads, as rows of worked examples say it: ranges of bytes with what becomes of them, and what becomes of all
-- other bytes. Of two ranges that have a byte the first decides.
-- Assumes nothing.
use Rattle.std.specs.Prelude.{ℕ, zero, suc, ◌≡◌, Bool, true, false, cond, ◌&&◌, List, [], ◌∷◌, ◌++◌, map, leb}
use Rattle.octets.specs.Sets.{from_on, up_to}

-- ---- ranges

pub record Range (B : Type 0) : Type 0 where
  pub first : ℕ
  pub last : ℕ
  pub leads : ℕ → B

-- one byte; the bytes from one to another; and those whose outcome goes by the byte
abbrev pub one : {B : Type 0} → ℕ → B → Range B
one b outcome = record { first = b; last = b; leads = λ c. outcome }

abbrev pub range : {B : Type 0} → ℕ → ℕ → B → Range B
range a z outcome = record { first = a; last = z; leads = λ c. outcome }

abbrev pub each : {B : Type 0} → ℕ → ℕ → (ℕ → B) → Range B
each a z outcome = record { first = a; last = z; leads = outcome }

-- space and tab
abbrev pub blank : {B : Type 0} → B → List (Range B)
blank outcome = one 32 outcome ∷ one 9 outcome ∷ []

abbrev pub digit : {B : Type 0} → B → List (Range B)
digit outcome = range 48 57 outcome ∷ []

-- each of some bytes
unfoldable pub one_of : {B : Type 0} → List ℕ → B → List (Range B)
one_of [] outcome = []
one_of (b ∷ s) outcome = one b outcome ∷ one_of s outcome

-- ---- all bytes

-- by a test
unfoldable pub either : {B : Type 0} → Bool → (ℕ → B) → (ℕ → B) → ℕ → B
either true f g b = f b
either false f g b = g b

unfoldable pub outcome_of : {B : Type 0} → List (Range B) → (ℕ → B) → ℕ → B
outcome_of [] other b = other b
outcome_of (r ∷ rs) other b = either (leb r.first b && leb b r.last) r.leads (outcome_of rs other) b

-- the bytes that a line may be made of: newline is none of them
unfoldable pub line_bytes : List ℕ
line_bytes = up_to 0 9 ++ up_to 11 255

-- among some bytes: by the ranges, or by the byte alone
abbrev pub LeadAmong : {B : Type 0} → List ℕ → (ℕ → B) → List (Range B) → (ℕ → B) → Type 0
LeadAmong bytes f ranges other = map f bytes ≡ map (outcome_of ranges other) bytes

abbrev pub Lead : {B : Type 0} → (ℕ → B) → List (Range B) → (ℕ → B) → Type 0
Lead f ranges other = LeadAmong (up_to 0 255) f ranges other

-- ---- a text that a byte is changed in

-- with another byte at a place
unfoldable pub with_byte : List ℕ → ℕ → ℕ → List ℕ
with_byte [] at b = []
with_byte (x ∷ s) zero b = b ∷ s
with_byte (x ∷ s) (suc at) b = x ∷ with_byte s at b

unfoldable pub bytes_where : (ℕ → Bool) → List ℕ → List ℕ
bytes_where p [] = []
bytes_where p (b ∷ s) = let later = bytes_where p s in cond (p b) (b ∷ later) later

-- for each of n places from a place on, the bytes that make a text there which passes
unfoldable pub passing_at : (List ℕ → Bool) → List ℕ → ℕ → ℕ → List (List ℕ)
passing_at p s at zero = []
passing_at p s at (suc n) = bytes_where (λ b. p (with_byte s at b)) (up_to 0 255) ∷ passing_at p s (suc at) n

-- an example that tries all bytes says `unfolding trying`
unfoldable pub trying : Unit {0}
unfolding from_on up_to one_of either outcome_of line_bytes with_byte bytes_where passing_at
trying = tt
