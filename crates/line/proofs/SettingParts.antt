-- The names and values of settings that the other files leave out: a bare name by any bytes after it, quotes that are not closed, bytes after a closed value.
-- Assumes nothing.
use Rattle.std.specs.Prelude.{None}
use mathlib.Core.Path.{◌≡◌, refl, sym, ap, ◌∙◌}
use mathlib.Core.Bool.{true, false}
use mathlib.Core.List.{List, [], ◌∷◌, ◌++◌, append-nil}
use Prim.Native.Nat.{ℕ, suc, ◌+◌, ◌-◌, ◌≤◌, ◌<◌}
use native.Mathlib.Omega.{arith}
use lib.ListN.{length, drop, get_or, length-drop}
use borrow.Author.Tests.{lt-ltb, le-ltb, lt-leb, eq-eqb, eqb-false}
use Rattle.octets.specs.Classes.{is_quote, of_class}
use Rattle.octets.specs.declared.class.Class.TheVariants.{Blank, Name, Not}
use Rattle.octets.specs.Runs.{run, are_of, skipped}
use Rattle.octets.proofs.Runs.{run-le}
use Rattle.octets.proofs.Places.{Stands, stops, drop_past, skipped-here, byte-here, run-whole}
use Rattle.line.proofs.Spacing.{quoted-whole}
use Rattle.line.specs.Assignments.{found, quoted_at, non_empty, name_at, closed, value_at}

pub bare-name : {s : List ℕ} {at x : ℕ} {n r : List ℕ} → Stands s at (x ∷ n) r → are_of Name (x ∷ n) ≡ true → is_quote x ≡ false → run Name r ≡ 0
    → name_at s at ≡ found (record { start = at; end = at + length (x ∷ n) }) (at + length (x ∷ n))
unfolding name_at non_empty
bare-name {at = at} {x = x} {n = n} here are bare ends =
    rw (skipped-here here Name are ends, byte-here here, bare, lt-ltb at (at + length (x ∷ n)) (omega arith))

pub no-bare-name : (s : List ℕ) (at : ℕ) → is_quote (get_or s at 0) ≡ false → run Name (drop at s) ≡ 0 → name_at s at ≡ None
unfolding name_at non_empty skipped
no-bare-name s at bare none = let e : at + 0 ≡ at = omega arith in rw (none, bare, e, le-ltb at at (omega arith))

-- a quote that isn't closed
pub never-closed : {s : List ℕ} {at q : ℕ} {t : List ℕ} → Stands s at (q ∷ t) [] → is_quote q ≡ true → are_of (Not q) t ≡ true
    → (value_at s at ≡ None) × (name_at s at ≡ None)
unfolding value_at name_at closed non_empty quoted_at run
never-closed {s} {at} {q} {t} here quote inside =
    let first : Stands s at (q ∷ []) (t ++ []) = record { is = here.is } in
    let rest : Stands s (at + 1) t [] = record { is = drop_past first } in
    let end : skipped (Not q) s (at + 1) ≡ at + 1 + length t = skipped-here rest (Not q) inside refl in
    let size : length s - at ≡ suc (length (t ++ [])) = sym (length-drop at s) ∙ ap length here.is in
    let past : length s ≤ at + 1 + length t = omega (arith, size, ap length (append-nil t)) in
    rw (byte-here here, quote, end, le-ltb (at + 1 + length t) (length s) past) (refl, refl)

-- anything but blanks after a closed value
pub value-junk : {s : List ℕ} {at q : ℕ} {t r : List ℕ} → Stands s at (q ∷ t) (q ∷ r) → is_quote q ≡ true → are_of (Not q) t ≡ true → are_of Blank r ≡ false
    → value_at s at ≡ None
unfolding value_at closed skipped of_class
value-junk {s} {at} {q} {t} {r} here quote inside junk =
    let first : Stands s at (q ∷ []) (t ++ (q ∷ r)) = record { is = here.is } in
    let rest : Stands s (at + 1) t (q ∷ r) = record { is = drop_past first } in
    let last : Stands s (at + 1 + length t) (q ∷ []) r = record { is = drop_past rest } in
    let next = at + 1 + length t + 1 in
    let size : length s - next ≡ length r = sym (length-drop next s) ∙ ap length (drop_past last) in
    let less : run Blank r < length r = omega (arith, eqb-false (run Blank r) (length r) (run-whole Blank r ∙ junk), run-le Blank r) in
    rw (byte-here here, quote, quoted-whole here inside (stops (Not q) q r (rw (eq-eqb q q refl))), drop_past last, lt-leb (length s) (next + run Blank r) (omega (arith, size, less)))
