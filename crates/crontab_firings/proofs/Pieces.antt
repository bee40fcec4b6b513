-- Laws of the pieces of a list: what is written of the runs is the lines of a piece; and pieces that follow each other are the whole list.
-- Assumes nothing.
use Rattle.std.specs.Prelude.{Result, Ok, Err}
use mathlib.Core.Path.{◌≡◌, refl, sym, ap, ◌∙◌}
use mathlib.Core.Logic.{◌⊎◌, inl, inr}
use mathlib.Core.Bool.{Bool, true, false, cond}
use mathlib.Core.List.{List, [], ◌∷◌, ◌++◌, append_assoc, append-nil}
use Prim.Native.Nat.{ℕ, zero, suc, ◌+◌, ◌-◌, ◌/◌, ◌≤◌, ◌<◌, min}
use native.Mathlib.Omega.{arith}
use lib.ListN.{length, take, drop, get_or, length-append}
use lib.Seq.{get_or-take}
use lib.Dec.{leb}
use Rattle.std.specs.Prelude.{Result}
use Rattle.refusal.specs.declared.Refusal.{Refusal}
use Rattle.refusal.specs.declared.Refusal.TheVariants.{NotOnCalendar}
use Rattle.field.specs.declared.Dialect.TheVariants.{Rising}
use Rattle.line.specs.declared.Kind.TheVariants.{User}
use Rattle.crontab.specs.declared.table.Table.{Table}
use Rattle.crontab.specs.declared.table.TableFault.{TableFault}
use Rattle.crontab.proofs.Theorems.{table-sound}
use Rattle.firings.specs.declared.Filled.{Filled}
use Rattle.firings.specs.declared.Filled.TheVariants.{All, More}
use Rattle.firings.specs.Lists.{Firing, merged_of}
use Rattle.firings.specs.Calls.{MergedStep, filled, fitted, room_in, minutes_of, entries_of, refused_merged, listed_merged, merged_in}
use Rattle.calendar.specs.Dates.{last_minute}
use Rattle.firings.specs.Rising.{FirstOf, Runs}
use Rattle.firings.proofs.Theorems.{merged-runs, merged-lengths, merged-split, PieceEnds, piece-ends, minutes-left, entries-left, minutes-right, entries-right}
use Rattle.crontab_firings.specs.Lines.{Lines, Before}
use Rattle.crontab_firings.specs.Pieces.{user_table, LinesOf, PieceLines, Pieces, last, more}

-- ---- lines of the same firings

same_lines : (m e m' e' : List ℕ) (k : ℕ) → ((i : ℕ) → i < k → (get_or m i 0 ≡ get_or m' i 0) × (get_or e i 0 ≡ get_or e' i 0))
    → (written : List ℕ) → Lines m e k written → Lines m' e' k written
same_lines m e m' e' zero same written l = l
same_lines m e m' e' (suc i) same written (before, line, l, is, whole) =
    let s = same i (omega arith) in
    (before, line, same_lines m e m' e' i (λ j h. same j (omega arith)) before l, rw (← s.0, ← s.1) is, whole)

first-at : (n : ℕ) (a b : List ℕ) → take n a ≡ take n b → (i : ℕ) → i < n → get_or a i 0 ≡ get_or b i 0
first-at n a b e i h = sym (get_or-take n a i 0 h) ∙ ap (λ (l : List ℕ). get_or l i 0) e ∙ get_or-take n b i 0 h

first-lines : (list : List Firing) (n k : ℕ) (minutes entries written : List ℕ) → FirstOf list n minutes entries → k ≤ n
    → Lines minutes entries k written → Lines (minutes_of list) (entries_of list) k written
first-lines list n k minutes entries written f h =
    same_lines minutes entries (minutes_of list) (entries_of list) k
    (λ i j. (first-at n minutes (minutes_of list) f.minutes-are i (omega arith), first-at n entries (entries_of list) f.entries-are i (omega arith))) written

-- those of the first of two lists
left-lines : (p q : List Firing) (k : ℕ) (written : List ℕ) → k ≡ length p → Lines (minutes_of (p ++ q)) (entries_of (p ++ q)) k written → LinesOf p written
left-lines p q k written e l =
    same_lines (minutes_of (p ++ q)) (entries_of (p ++ q)) (minutes_of p) (entries_of p) (length p)
    (λ i h. (minutes-left p q i h, entries-left p q i h)) written (rw e at l)

-- ---- a piece

-- what a merged list left in runs of 4,096 places each, and a text with room for as many lines
pub record Filling (t : Result Table TableFault) (a b : ℕ) (x : Result Filled Refusal) (minutes entries before : List ℕ) : Type 0 where
  pub runs : Runs t a b 4096 x minutes entries
  pub places : (length minutes ≡ 4096) × (length entries ≡ 4096)
  pub text : length before ≡ 172032

pub filling : (t : Result Table TableFault) (a b : ℕ) (m e minutes entries before : List ℕ) {x y : Result Filled Refusal} → x ≡ (merged_in t a b m e).answer
    → (minutes ≡ (merged_in t a b m e).minutes) × (entries ≡ (merged_in t a b m e).entries) → x ≡ y
    → (length m ≡ 4096) × (length e ≡ 4096) → length before ≡ 172032
    → Filling t a b y minutes entries before
unfolding room_in
filling t a b m e minutes entries before is runs same sizes text =
    let kept = merged-lengths t a b m e in
    let room : room_in m e ≡ 4096 = omega (arith, sizes.0, sizes.1) in
    record { runs = rw (← same, is, runs.0, runs.1, ← room) (merged-runs t a b m e); places = (ap length runs.0 ∙ kept.0 ∙ sizes.0, ap length runs.1 ∙ kept.1 ∙ sizes.1); text = text }

-- what was written of the first n firings
pub record Wrote (n : ℕ) (minutes entries before now : List ℕ) (size : ℕ) : Type 0 where
  pub within : size ≤ length now
  pub lines : Lines minutes entries (min (min n (length before / 42)) (min (length minutes) (length entries))) (take size now)
  pub rest : drop size now ≡ drop size before

module _ (s : List ℕ) (a b n : ℕ) (minutes entries before : List ℕ) where
  abbrev t : Result Table TableFault
  t = user_table s

  all-written : {x : Result Filled Refusal} → Filling t a b x minutes entries before → (k size : ℕ) (now : List ℕ) → k ≤ 4096 → Wrote k minutes entries before now size
      → Lines minutes entries k (take size now)
  all-written f k size now h w =
      let e : min (min k (length before / 42)) (min (length minutes) (length entries)) ≡ k = omega (arith, f.places.0, f.places.1, f.text) in
      rw e at w.lines

  pub all-piece : Filling t a b (Ok (All n)) minutes entries before → (size : ℕ) (now : List ℕ) → Wrote n minutes entries before now size
      → PieceLines t a b before now size b
  all-piece f size now w =
      let (given, first, all, fits) = f.runs in
      record {
        given = given;
        within = w.within;
        lines = rw all at (first-lines (merged_of t a b) n n minutes entries (take size now) first (omega arith) (all-written f n size now fits w));
        rest = w.rest;
        onward = inl refl;
      }

  module _ (f : Filling t a b (Ok (More n)) minutes entries before) (kept last : ℕ) (is : last ≡ get_or (0 ∷ minutes) n 0)
      (k : Before last minutes (min n (length minutes)) kept) where
    full : (n ≡ 4096) × (min n (length minutes) ≡ n)
    full = let (given, first, few, all) = f.runs in (all, omega (arith, all, f.places.0))

    last-is : last ≡ get_or (minutes_of (merged_of t a b)) (n - 1) 0
    last-is =
        let (given, first, few, all) = f.runs in
        let e : n ≡ suc (n - 1) = omega (arith, all) in
        is ∙ ap (λ (i : ℕ). get_or (0 ∷ minutes) i 0) e ∙ first-at n minutes (minutes_of (merged_of t a b)) first.minutes-are (n - 1) (omega (arith, all))

    pub ends : PieceEnds t a b kept last
    ends =
        let (given, first, few, all) = f.runs in
        let here : (i : ℕ) → i < n → get_or minutes i 0 ≡ get_or (minutes_of (merged_of t a b)) i 0 = first-at n minutes (minutes_of (merged_of t a b)) first.minutes-are in
        rw (last-is)
        (piece-ends t a b n kept (omega (arith, all, (table-sound (record { kind = User; dialect = Rising }) s).few)) (omega arith) (omega (arith, k.within, full.1))
        (λ j h i. sym (here j i) ∙ k.behind j h (omega (arith, full.1)) ∙ last-is)
        (λ h e. k.other h (here (kept - 1) (omega (arith, k.within, full.1)) ∙ e ∙ sym last-is)))

    pub more-piece : (size : ℕ) (now : List ℕ) → Wrote kept minutes entries before now size → PieceLines t a b before now size (last - 1)
    more-piece size now w =
        let (given, first, few, all) = f.runs in
        let e = ends in
        let l = first-lines (merged_of t a b) n kept minutes entries (take size now) first (omega (arith, k.within, full.1))
        (all-written f kept size now (omega (arith, k.within, full.0, full.1)) w) in
        record {
          given = given;
          within = w.within;
          lines = left-lines (merged_of t a (last - 1)) (merged_of t (last - 1) b) kept (take size now) e.count (rw e.split at l);
          rest = w.rest;
          onward = inr (omega (arith, e.onward), omega (arith, e.onward, e.within));
        }

-- a refusal has nothing to do with the runs
pub refused-any : (t : Result Table TableFault) (a b : ℕ) (m e : List ℕ) {n : Refusal} {x : Result Filled Refusal} → x ≡ (merged_in t a b m e).answer → x ≡ Err n
    → (merged_in t a b [] []).answer ≡ Err n
unfolding merged_in refused_merged listed_merged filled
refused-any t a b m e {n} is refused = go t (sym is ∙ refused)
  where
    all : Table → List ℕ → List ℕ → Filled → MergedStep
    all v m e x = record { answer = Ok x; minutes = fitted (minutes_of (merged_of (Ok v) a b)) (room_in m e) m; entries = fitted (entries_of (merged_of (Ok v) a b)) (room_in m e) e }

    by_test : (v : Table) (x y z : Bool)
        → (cond {A = MergedStep} x (cond y (all v m e (cond z (All (length (merged_of (Ok v) a b))) (More (room_in m e)))) (refused_merged NotOnCalendar m e)) (refused_merged NotOnCalendar m e)).answer ≡ Err n
        → (cond {A = MergedStep} x (cond y (listed_merged (merged_of (Ok v) a b) [] []) (refused_merged NotOnCalendar [] [])) (refused_merged NotOnCalendar [] [])).answer ≡ Err n
    by_test v false y z q = q
    by_test v true false z q = q
    by_test v true true true q = absurd (let z : ◌≡◌ {A = ℕ} 0 1 = cc in omega arith)
    by_test v true true false q = absurd (let z : ◌≡◌ {A = ℕ} 0 1 = cc in omega arith)

    go : (u : Result Table TableFault) → (merged_in u a b m e).answer ≡ Err n → (merged_in u a b [] []).answer ≡ Err n
    go (Err f) q = q
    go (Ok v) q = by_test v (leb a last_minute) (leb b last_minute) (leb (length (merged_of (Ok v) a b)) (room_in m e)) q

-- ---- pieces that follow each other

join-lines : (p q : List Firing) (k : ℕ) (u v : List ℕ) → k ≤ length q → LinesOf p u → Lines (minutes_of q) (entries_of q) k v
    → Lines (minutes_of (p ++ q)) (entries_of (p ++ q)) (length p + k) (u ++ v)
join-lines p q zero u v h l m =
    let e : length p + 0 ≡ length p = omega arith in
    rw (m, append-nil u, e)
    (same_lines (minutes_of p) (entries_of p) (minutes_of (p ++ q)) (entries_of (p ++ q)) (length p)
    (λ i j. (sym (minutes-left p q i j), sym (entries-left p q i j))) u l)
join-lines p q (suc k) u v h l (before, line, m, is, whole) =
    let e : length p + suc k ≡ suc (length p + k) = omega arith in
    let z : length p + k - length p ≡ k = omega arith in
    let minute : get_or (minutes_of (p ++ q)) (length p + k) 0 ≡ get_or (minutes_of q) k 0 = minutes-right p q (length p + k) (omega arith) ∙ rw z in
    let entry : get_or (entries_of (p ++ q)) (length p + k) 0 ≡ get_or (entries_of q) k 0 = entries-right p q (length p + k) (omega arith) ∙ rw z in
    rw e (u ++ before, line, join-lines p q k u before (omega arith) l m, rw (minute, entry) is, rw whole (sym (append_assoc u before line)))

lines-from : (t : Result Table TableFault) (b a : ℕ) (written : List ℕ) → Pieces t b a written → LinesOf (merged_of t a b) written
lines-from t b a written (last w l) = l
lines-from t b a written (more {next = next} w {later = later} h i l p) =
    let first = merged_of t a next in
    let second = merged_of t next b in
    rw (merged-split t a next b (omega arith) (omega arith), length-append first second)
    (join-lines first second (length second) w later (omega arith) l (lines-from t b next later p))

pub pieces_whole : (t : Result Table TableFault) (a b : ℕ) (written : List ℕ) → Pieces t b a written → LinesOf (merged_of t a b) written
pieces_whole t a b written p = lines-from t b a written p

-- a piece that ends with the list is its last; another goes before the pieces that go on where it ended
pub piece-on : (t : Result Table TableFault) (a b size next : ℕ) (before now later : List ℕ) → PieceLines t a b before now size next
    → (next ≡ b → Pieces t b a (take size now)) × (next < b → Pieces t b next later → Pieces t b a (take size now ++ later))
piece-on t a b size next before now later p = (
  (λ e. last (take size now) (rw e at p.lines)),
  (λ h q. more (take size now) (onward p.onward h) h p.lines q),
)
  where
    onward : (next ≡ b) ⊎ ((a < next) × (next < b)) → next < b → a < next
    onward (inl e) h = absurd (omega arith)
    onward (inr o) h = o.0
