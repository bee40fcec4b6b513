-- Laws of tables that nothing else uses, used in full for any table: a hypothesis more, or a part less of a conclusion, breaks one of these.
-- Assumes nothing.
use Rattle.std.specs.Prelude.{Option, ℤ, Ok, Err}
use mathlib.Core.Path.{◌≡◌}
use mathlib.Core.Bool.{true, false, not}
use mathlib.Core.List.{List, [], ◌∷◌, ◌++◌}
use Prim.Native.Nat.{ℕ, ◌+◌, ◌≤◌, ◌<◌}
use lib.ListN.{length}
use lib.Dec.{eqb}
use Rattle.std.specs.Prelude.{IsOk, Ok, Err}
use Rattle.refusal.specs.declared.Refusal.{Refusal}
use Rattle.refusal.specs.declared.Refusal.TheVariants.{TableTooLong, TooManyEntries, CutTable}
use Rattle.refusal.specs.Numbers.{number_of}
use Rattle.octets.specs.declared.class.Class.TheVariants.{Not}
use Rattle.octets.specs.Runs.{are_of}
use Rattle.line.specs.declared.Rules.{Rules}
use Rattle.line.specs.declared.Part.{Part}
use Rattle.field.specs.declared.Fault.{Fault}
use Rattle.line.specs.declared.Line.TheVariants as line
use Rattle.line.specs.declared.time.When.{When}
use Rattle.line.specs.Lines.{read_line}
use Rattle.line.specs.Offsets.{utc}
use Rattle.crontab.specs.Refusals.{no_setting}
use Rattle.crontab.specs.Lines.{lines_of, is_cut}
use Rattle.crontab.specs.Items.{moved, items_of}
use Rattle.crontab.specs.Tables.{table_of, verdict_of, entry_in, refusal_in}
use Rattle.crontab.specs.Settings.{shown, setting_in, next_line_in}
use Rattle.crontab.proofs.LineNumbers.{next-setting}
use Rattle.crontab.specs.LineByLine.{Accepted, NoSetting, entries_in, AllAccepted, bytes_of, entries_among, offset_after_all}
use Rattle.crontab.proofs.LineByLine.{refused_at, too_long_lem, all-accepted, fault-of-line, entry-too-many, last-cut, good-accepted, entry-of-line, setting-of-line, no-setting-of-line}
use Rattle.crontab.proofs.LineEnds.{line-ends, line-alone, cut-is}

-- ---- a table by its lines

pub verdicts-used : (rules : Rules) (s : List ℕ)
    → (49152 < length s → verdict_of (table_of rules s) ≡ refused_at TableTooLong 0 0)
    × (length s ≤ 49152 → is_cut s ≡ false → AllAccepted rules (lines_of s) → entries_among rules (lines_of s) ≤ 512
    → verdict_of (table_of rules s) ≡ Ok (entries_among rules (lines_of s)))
    × (refusal_in (table_of rules s) ≡ 0 → AllAccepted rules (lines_of s) × (entries_among rules (lines_of s) ≤ 512))
verdicts-used rules s = (too_long_lem rules s, all-accepted rules s, good-accepted rules s)

module _ (rules : Rules) (s : List ℕ) (before : List (List ℕ)) (l : List ℕ) (ls : List (List ℕ)) (lines : lines_of s ≡ before ++ l ∷ ls) where
  pub faults-used : length s ≤ 49152 → AllAccepted rules before → entries_among rules before ≤ 512
      → ((f : Fault) → read_line rules l ≡ Err f → verdict_of (table_of rules s) ≡ refused_at f.refusal (length before + 1) f.column)
      × ((when : When) (start : ℕ) → read_line rules l ≡ Ok (line.Entry when start) → entries_among rules before ≡ 512 → verdict_of (table_of rules s) ≡ refused_at TooManyEntries (length before + 1) 1)
  faults-used short a few = (
    (λ f is. fault-of-line rules s short before l ls lines a few is),
    (λ when start is full. entry-too-many rules s short before l ls lines a few is full),
  )

  pub lines-used : refusal_in (table_of rules s) ≡ 0
      → ((when : When) (start : ℕ) → read_line rules l ≡ Ok (line.Entry when start)
      → entry_in (table_of rules s) (entries_among rules before)
      ≡ Ok (record {
        when = when;
        line = length before + 1;
        at = bytes_of before;
        start = bytes_of before + start;
        end = bytes_of before + length l;
        offset = offset_after_all rules utc before;
      }))
      × ((name value : Part) (zone : Option ℤ) → read_line rules l ≡ Ok (line.Setting name value zone)
      → setting_in (items_of rules s) (length before + 1) ≡ shown (moved (bytes_of before) name) (moved (bytes_of before) value))
      × (NoSetting (read_line rules l) → setting_in (items_of rules s) (length before + 1) ≡ Err no_setting)
  lines-used good = (
    (λ when start is. entry-of-line rules s good before l ls lines is),
    (λ name value zone is. setting-of-line rules s good before l ls lines is),
    no-setting-of-line rules s good before l ls lines,
  )

pub cut-used : (rules : Rules) (s : List ℕ) → length s ≤ 49152 → is_cut s ≡ true → (before : List (List ℕ)) (l : List ℕ) → lines_of s ≡ before ++ l ∷ []
    → AllAccepted rules before → Accepted (read_line rules l) → entries_among rules before + entries_in (read_line rules l) ≤ 512
    → verdict_of (table_of rules s) ≡ refused_at CutTable (length before + 1) (length l + 1)
cut-used rules s short cut before l lines a this few = last-cut rules s short cut before l lines a this few

-- ---- the next setting, in all its answers

module _ (rules : Rules) (s : List ℕ) (n : ℕ) where
  pub next-found : (k : ℕ) → next_line_in (items_of rules s) n ≡ Ok k
      → (refusal_in (table_of rules s) ≡ 0) × (n ≤ k) × (k ≤ length s + 1) × IsOk (setting_in (items_of rules s) k)
      × ((j : ℕ) → n ≤ j → j < k → setting_in (items_of rules s) j ≡ Err no_setting)
  next-found k e = let r = rw e at (next-setting rules s n) in (r.0, r.1, r.2, r.3, r.4)

  pub next-none : (refusal : Refusal) → next_line_in (items_of rules s) n ≡ Err refusal
      → ((refusal_in (table_of rules s) ≡ 0 → ⊥) → number_of refusal ≡ refusal_in (table_of rules s))
      × (refusal_in (table_of rules s) ≡ 0 → (refusal ≡ no_setting) × ((j : ℕ) → n ≤ j → setting_in (items_of rules s) j ≡ Err no_setting))
  next-none refusal e = let r = rw e at (next-setting rules s n) in (r.0, r.1)

-- ---- lines by their bytes

pub ends-used : (l rest : List ℕ) (b : ℕ)
    → (are_of (Not 10) l ≡ true → lines_of (l ++ (10 ∷ rest)) ≡ l ∷ lines_of rest)
    × (are_of (Not 10) (b ∷ l) ≡ true → lines_of (b ∷ l) ≡ (b ∷ l) ∷ [])
    × (is_cut (l ++ (b ∷ [])) ≡ not (eqb b 10))
ends-used l rest b = (line-ends l rest, line-alone b l, cut-is l b)
