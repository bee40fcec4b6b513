-- A text written over the front of a buffer that is long enough; all other bytes stay (K6, P9, Q11, B7, I3).
-- Assumes nothing.
use Rattle.std.specs.Prelude.{ℕ, List, ◌++◌, length, drop}

-- K6, P9, Q11, B7, I3: the text, then the buffer's own bytes
unfoldable pub over_front : List ℕ → List ℕ → List ℕ
over_front t buffer = t ++ drop (length t) buffer
