-- What a setting says of the offset, by its shown name and value alone.
-- Assumes nothing.
use Rattle.std.specs.Prelude.{Some, None, Ok, Err}
use Rattle.refusal.specs.declared.Refusal.TheVariants.{BadOffset}
use mathlib.Core.Path.{◌≡◌, refl}
use mathlib.Core.Bool.{Bool, true, false, cond}
use mathlib.Core.List.{List}
use Prim.Native.Nat.{ℕ, ◌+◌}
use Rattle.line.specs.declared.Part.{Part}
use Rattle.line.specs.declared.Line.TheVariants as line
use Rattle.line.specs.Words.{same}
use Rattle.line.specs.Offsets.{zone_name, is_offset, offset_of, read_offset, Zoned, zone_of, is_allowed_setting}
use Rattle.line.specs.Assignments.{part_bytes, after_offset, with_offset, zoned}
use Rattle.line.proofs.Offsets.{zone-in}

-- a setting by its shown name and value
pub zoned-is : (s : List ℕ) (at : ℕ) (name value : Part)
    → zoned s at name value
    ≡ cond (is_allowed_setting (part_bytes s name) (part_bytes s value)) (Ok (line.Setting name value (zone_of (part_bytes s name) (part_bytes s value))))
    (Err (record { refusal = BadOffset; column = at + 1 }))
unfolding zoned with_offset after_offset read_offset zone_of is_allowed_setting
zoned-is s at name value = go (same (part_bytes s name) zone_name) (is_offset v)
  where
    v : List ℕ
    v = part_bytes s value

    go : (a b : Bool)
        → cond a (after_offset at name value (cond b (Some (offset_of v)) None)) (Ok (line.Setting name value None))
        ≡ cond (cond a b true) (Ok (line.Setting name value (cond a (Some (offset_of v)) None))) (Err (record { refusal = BadOffset; column = at + 1 }))
    go true true = refl
    go true false = refl
    go false b = refl

-- an offset that may stand is one that may be
pub zone-stands : (name value : List ℕ) → is_allowed_setting name value ≡ true → Zoned (zone_of name value)
unfolding zone_of is_allowed_setting
zone-stands name value e = go (same name zone_name) e
  where
    go : (t : Bool) → cond t (is_offset value) true ≡ true → Zoned (cond t (Some (offset_of value)) None)
    go true e = zone-in value e
    go false e = tt
