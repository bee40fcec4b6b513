-- Rules act on each line of a table apart from the others, and on nothing else.
-- Assumes nothing.
use Rattle.std.specs.Prelude.{Ok, Err, Result}
use mathlib.Core.Path.{◌≡◌, refl}
use mathlib.Core.Bool.{Bool, true, false}
use mathlib.Core.List.{List, [], ◌∷◌}
use Prim.Native.Nat.{ℕ, ◌+◌}
use lib.ListN.{length}
use lib.IntN.{ℤ}
use Rattle.field.specs.declared.Dialect.{Dialect}
use Rattle.line.specs.declared.Rules.{Rules}
use Rattle.line.specs.declared.Kind.{Kind}
use Rattle.line.specs.declared.Line.{Line}
use Rattle.line.specs.declared.Line.TheVariants.{Ignored, Setting, Entry}
use Rattle.line.specs.Entries.{at_sign}
use Rattle.line.specs.Offsets.{utc, in_force}
use Rattle.crontab.specs.Lines.{lines_of, is_cut}
use Rattle.line.specs.Lines.{starts_entry, read_line}
use Rattle.crontab.specs.Items.{Items, after_line, items_from, items_of}
use Rattle.crontab.specs.Tables.{table_of}
use Rattle.line.proofs.Theorems.{rules_of, first_byte, word_line, other-line}
use Rattle.field.specs.declared.Fault.{Fault}

abbrev pub ReadAlike : Rules → Rules → List (List ℕ) → Type 0
ReadAlike rules others [] = Unit {0}
ReadAlike rules others (l ∷ ls) = (read_line rules l ≡ read_line others l) × ReadAlike rules others ls

pub after_same : (at n size k : ℕ) (o : ℤ) (x : Result Line Fault) (f g : ℕ → ℤ → Items) → ((j : ℕ) (p : ℤ) → f j p ≡ g j p)
    → after_line at n size k o x f ≡ after_line at n size k o x g
unfolding after_line
after_same at n size k o (Ok Ignored) f g h = h k o
after_same at n size k o (Ok (Setting name value zone)) f g h = rw (h k (in_force zone o))
after_same at n size k o (Ok (Entry when start)) f g h = rw (h (k + 1) o)
after_same at n size k o (Err x) f g h = refl

from-same : (rules others : Rules) (cut : Bool) (at n k : ℕ) (o : ℤ) (ls : List (List ℕ)) → ReadAlike rules others ls
    → items_from rules cut at n k o ls ≡ items_from others cut at n k o ls
unfolding items_from
from-same rules others cut at n k o [] h = refl
from-same rules others cut at n k o (l ∷ ls) h =
    rw (
      h.0,
      after_same at n (length l) k o (read_line others l) _ (λ j p. items_from others cut (at + length l + 1) (n + 1) j p ls)
          (λ j p. from-same rules others cut (at + length l + 1) (n + 1) j p ls h.1),
    )

pub items_alike : (rules others : Rules) (s : List ℕ) → ReadAlike rules others (lines_of s) → items_of rules s ≡ items_of others s
unfolding items_of
items_alike rules others s h = rw (from-same rules others (is_cut s) 0 1 0 utc (lines_of s) h)

pub table-alike : (rules others : Rules) (s : List ℕ) → ReadAlike rules others (lines_of s) → table_of rules s ≡ table_of others s
unfolding table_of
table-alike rules others s h = rw (items_alike rules others s h)

-- no line starts with a digit or `*`
abbrev pub Untimed : List (List ℕ) → Type 0
Untimed [] = Unit {0}
Untimed (l ∷ ls) = (starts_entry (first_byte l) ≡ true → first_byte l ≡ at_sign) × Untimed ls

untimed-alike : (k : Kind) (d e : Dialect) (ls : List (List ℕ)) → Untimed ls → ReadAlike (rules_of k d) (rules_of k e) ls
untimed-alike k d e [] h = tt
untimed-alike k d e (l ∷ ls) h = (go (starts_entry (first_byte l)) refl, untimed-alike k d e ls h.1)
  where
    go : (b : Bool) → starts_entry (first_byte l) ≡ b → read_line (rules_of k d) l ≡ read_line (rules_of k e) l
    go true p = word_line k d e l (h.0 p)
    go false p = other-line (rules_of k d) (rules_of k e) l p

-- a table of settings, words and comments is the same in both dialects, refused or not
pub untimed-table : (k : Kind) (d e : Dialect) (s : List ℕ) → Untimed (lines_of s) → table_of (rules_of k d) s ≡ table_of (rules_of k e) s
untimed-table k d e s h = table-alike (rules_of k d) (rules_of k e) s (untimed-alike k d e (lines_of s) h)
