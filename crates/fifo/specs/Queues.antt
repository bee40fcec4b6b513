-- A queue as its mark and the list of the waiting entries' numbers, the front first (Q1). Its bytes are in Layout.
-- Assumes nothing.
use Rattle.std.specs.Prelude.{ℕ, zero, suc, Bool, true, false, not, cond, ◌&&◌, ◌||◌, List, [], ◌∷◌, ◌++◌, ltb, eqb, Option}
use Rattle.schedule.specs.Jumps.{is_mark}

-- Q1: a queue
pub record Queue : Type 0 where
  -- the minute up to which fixed entries have been judged, or none
  pub mark : Option ℕ
  pub waiting : List ℕ

-- Q1: whether entry e waits
unfoldable pub is_waiting : ℕ → List ℕ → Bool
is_waiting e [] = false
is_waiting e (x ∷ l) = eqb x e || is_waiting e l

-- Q1: entries of a table of n entries, none twice
unfoldable pub entries_of : ℕ → List ℕ → Bool
entries_of n [] = true
entries_of n (e ∷ l) = ltb e n && not (is_waiting e l) && entries_of n l

-- Q1, Q13: a queue of a table of n entries, whichever table made it
unfoldable pub proper : ℕ → Queue → Bool
proper n l = is_mark l.mark && entries_of n l.waiting

-- Q2, Q3: the entries below n that pass a test, in file order
unfoldable pub pick : (ℕ → Bool) → ℕ → List ℕ
pick p zero = []
pick p (suc n) = pick p n ++ cond (p n) (n ∷ []) []
