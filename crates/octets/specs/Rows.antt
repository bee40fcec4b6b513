-- Worked examples as rows, each what is asked and what comes back: that all of them hold is one equation, which one `refl` shows.
-- Assumes nothing.
use Rattle.std.specs.Prelude.{◌≡◌, List, map}

abbrev pub Hold : {A B : Type 0} → (A → B) → List (A × B) → Type 0
Hold {A} {B} f rows = map (λ (row : A × B). f row.0) rows ≡ map (λ (row : A × B). row.1) rows
