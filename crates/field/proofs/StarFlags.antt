-- The flag and the set of a star, used under any limits: a hypothesis more breaks one of these.
-- Assumes nothing.
use mathlib.Core.Path.{◌≡◌}
use mathlib.Core.Bool.{Bool, true}
use mathlib.Core.List.{List, [], ◌∷◌}
use Prim.Native.Nat.{ℕ, ◌≤◌, ◌<◌}
use Rattle.octets.specs.Sets.{has_bit}
use Rattle.field.specs.declared.Limits.{Limits}
use Rattle.field.specs.Fields.{read_field}
use Rattle.field.specs.Members.{is_star}
use Rattle.field.specs.Values.{bit_of}
use Rattle.field.proofs.Theorems.{star-flag, star-full}
use Rattle.field.specs.Judgement.{means}

module _ (l : Limits) (column : ℕ) {set : ℕ} {star : Bool} where
  pub flag-used : (s : List ℕ) → read_field l column s ≡ means set star → star ≡ is_star s
  flag-used s e = star-flag l column s e

  pub full-used : read_field l column (42 ∷ []) ≡ means set star → (v : ℕ) → l.first ≤ v → v ≤ l.last → bit_of l v < 64 → has_bit set (bit_of l v) ≡ true
  full-used e v = star-full l column e v
