-- What is said of lines and pieces, where it doesn't hold: each word is refused for each of its parts.
-- Assumes nothing.
use Rattle.std.specs.Prelude.{refl, List, [], ◌∷◌, ◌++◌, ℕ, length, get_or, Err, Result}
use Rattle.std.proofs.Common.{ap, inl, inr, arith, length-append}
use Rattle.refusal.specs.declared.Refusal.TheVariants.{OutOfLimits}
use Rattle.crontab.specs.declared.table.Table.{Table}
use Rattle.crontab.specs.declared.table.TableFault.{TableFault}
use Rattle.crontab_firings.specs.Lines.{Line, Before, space, newline}
use Rattle.crontab_firings.specs.Pieces.{LinesOf, PieceLines, PieceIs}

-- no bytes are a line, and no line is written of no firings
not_line : (Line 5 1 [] → ⊥) × (LinesOf [] (10 ∷ []) → ⊥)
not_line = (
  (λ l. omega (arith, ap length l.is, length-append (l.first ++ space ∷ [] ++ l.second) (newline ∷ []))),
  (λ l. omega (arith, ap length l)),
)

-- more than there are; one of another minute among the last; one of the last minute before them
not-before : (Before 5 [] 0 1 → ⊥) × (Before 5 (5 ∷ 6 ∷ []) 2 0 → ⊥) × (Before 5 (5 ∷ 5 ∷ []) 2 1 → ⊥)
not-before = (
  (λ b. omega (arith, b.within)),
  (λ b. omega (arith, b.behind 1 (omega arith) (omega arith))),
  (λ b. b.other (omega arith) refl),
)

-- Off the calendar; more bytes than there are; the bytes after them changed; on to no later minute, or to one beyond b. And a refusal that changes the text.
not_piece : (t : Result Table TableFault)
    → (PieceLines t 0 4223371680 [] [] 0 4223371680 → ⊥)
    × (PieceLines t 0 9 [] [] 1 9 → ⊥)
    × (PieceLines t 0 9 (1 ∷ []) (2 ∷ []) 0 9 → ⊥)
    × (PieceLines t 0 9 [] [] 0 0 → ⊥)
    × (PieceLines t 0 9 [] [] 0 10 → ⊥)
    × (PieceIs t 0 9 (1 ∷ []) (2 ∷ []) (Err OutOfLimits) → ⊥)
not_piece t = (
  (λ p. omega (arith, p.given.to)),
  (λ p. omega (arith, p.within)),
  (λ p. omega (arith, ap (λ (l : List ℕ). get_or l 0 0) p.rest)),
  (λ p. elim p.onward [ inl e ↦ omega (arith, e) | inr h ↦ omega (arith, h.0) ]),
  (λ p. elim p.onward [ inl e ↦ omega (arith, e) | inr h ↦ omega (arith, h.1) ]),
  (λ p. omega (arith, ap (λ (l : List ℕ). get_or l 0 0) p.1)),
)
