-- The value of `CRON_TZ`: what is read of it tells whether it is an offset.
-- Assumes nothing.
use Rattle.std.specs.Prelude.{Some, None, is_some}
use mathlib.Core.Path.{◌≡◌, refl}
use mathlib.Core.Bool.{Bool, true, false, cond}
use mathlib.Core.List.{List}
use Prim.Native.Nat.{ℕ}
use Rattle.line.specs.Offsets.{is_offset, offset_of, read_offset}

pub offset_read : (s : List ℕ) → is_some (read_offset s) ≡ is_offset s
unfolding read_offset
offset_read s = go (is_offset s)
  where
    go : (t : Bool) → is_some (cond t (Some (offset_of s)) None) ≡ t
    go true = refl
    go false = refl
