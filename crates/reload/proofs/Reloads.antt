-- Laws of the queue that a reload leaves: entries of the new table, none twice, and how it grows entry by entry.
-- Assumes nothing.
use mathlib.Core.Path.{◌≡◌, refl, sym, ap, ◌∙◌}
use mathlib.Core.Bool.{Bool, true, false, not, ◌&&◌, ◌||◌, true≢false, and-eq-true_iff, or-true}
use mathlib.Core.Logic.{◌⊎◌, inl, inr, ⊎_elim}
use mathlib.Core.List.{List, [], ◌∷◌, ◌++◌, append_assoc, append-nil}
use Prim.Native.Nat.{ℕ, ◌+◌, ◌/◌, ◌≤◌, ◌<◌}
use native.Mathlib.Omega.{arith}
use native.Mathlib.Numerals.{add-one}
use lib.ListN.{length, get_or, take, set, replicate, length-set}
use lib.Seq.{take_all, take-suc-set}
use lib.Dec.{eqb, ltb}
use borrow.Author.Tests.{eq-eqb, eqb-true, ne_eqb, ltb-true, lt-ltb, not-true}
use Rattle.octets.specs.BitSets.{has_member, with_member}
use Rattle.octets.proofs.BitSets.{no_member, with-length, with-member}
use Rattle.line.specs.declared.Rules.{Rules}
use Rattle.crontab.specs.Limits.{max_entries}
use Rattle.crontab.specs.Tables.{table_of, count_in}
use Rattle.crontab.specs.Selections.{bit_set_words}
use Rattle.crontab.proofs.Theorems.{table-sound}
use Rattle.fifo.specs.Queues.{is_waiting, entries_of}
use Rattle.fifo.proofs.Theorems.{entries-cons, entries-snoc, entries-length, waits-append, take_next}
use Rattle.reload.specs.Targets.{same_in, target_in, joins, joined, reloaded_from, reloaded}
use Rattle.reload.proofs.Targets.{target-there, target-same, target-self}

-- ---- one entry more

module _ (n : ℕ) (queue : List ℕ) (j : ℕ) where
  joined-out : joins n queue j ≡ false → joined n queue j ≡ queue
  unfolding joined
  joined-out e = rw e

  joined_in : joins n queue j ≡ true → joined n queue j ≡ queue ++ j ∷ []
  unfolding joined
  joined_in e = rw e

  -- an entry joins that isn't queued
  joins-is : joins n queue j ≡ true → (j < n) × (is_waiting j queue ≡ false)
  joins-is e = let t = (and-eq-true_iff (ltb j n) (not (is_waiting j queue))).0 e in (ltb-true j n t.0, not-true (is_waiting j queue) t.1)

  joined-entries : entries_of n queue ≡ true → entries_of n (joined n queue j) ≡ true
  joined-entries g = go (joins n queue j) refl
    where
      go : (b : Bool) → joins n queue j ≡ b → entries_of n (joined n queue j) ≡ true
      go false e = rw (joined-out e) g
      go true e = rw (joined_in e) (entries-snoc n queue j g (joins-is e).0 (joins-is e).1)

  -- the queue and more after it
  joined-front : (rest : List ℕ) × (joined n queue j ≡ queue ++ rest)
  joined-front = go (joins n queue j) refl
    where
      go : (b : Bool) → joins n queue j ≡ b → (rest : List ℕ) × (joined n queue j ≡ queue ++ rest)
      go false e = ([], joined-out e ∙ sym (append-nil queue))
      go true e = (j ∷ [], joined_in e)

  -- an entry of the table is queued then
  joined-there : j < n → is_waiting j (joined n queue j) ≡ true
  unfolding is_waiting
  joined-there h = go (is_waiting j queue) refl
    where
      go : (b : Bool) → is_waiting j queue ≡ b → is_waiting j (joined n queue j) ≡ true
      go true e = rw (joined-out (rw (lt-ltb j n h, e))) e
      go false e = rw (joined_in (rw (lt-ltb j n h, e))) (waits-append j queue (j ∷ []) ∙ rw (e, eq-eqb j j refl))

  -- and no other than before
  joined-from : (x : ℕ) → is_waiting x (joined n queue j) ≡ true → (is_waiting x queue ≡ true) ⊎ ((j ≡ x) × (j < n))
  unfolding is_waiting
  joined-from x = go (joins n queue j) refl
    where
      pick : (a b : Bool) → is_waiting x queue ≡ a → eqb j x ≡ b → (a || (b || false)) ≡ true → j < n → (is_waiting x queue ≡ true) ⊎ ((j ≡ x) × (j < n))
      pick true b p q t h = inl p
      pick false true p q t h = inr (eqb-true j x q, h)
      pick false false p q t h = absurd (true≢false (sym t))

      go : (b : Bool) → joins n queue j ≡ b → is_waiting x (joined n queue j) ≡ true → (is_waiting x queue ≡ true) ⊎ ((j ≡ x) × (j < n))
      go false e t = inl (rw (joined-out e) at t)
      go true e t = pick (is_waiting x queue) (eqb j x) refl refl (sym (waits-append x queue (j ∷ [])) ∙ rw (joined_in e) at t) (joins-is e).0

module _ (rules : Rules) (old new : List ℕ) where
  abbrev fewer : ℕ
  fewer = count_in (table_of rules new)

  abbrev after : List ℕ → List ℕ → List ℕ
  after = reloaded_from rules old new

  -- the first part of a queue, and then the second one
  from-append : (queue l k : List ℕ) → after queue (l ++ k) ≡ after (after queue l) k
  unfolding reloaded_from
  from-append queue [] k = refl
  from-append queue (e ∷ l) k = from-append (joined fewer queue (target_in rules old new e)) l k

  from_entries : (queue l : List ℕ) → entries_of fewer queue ≡ true → entries_of fewer (after queue l) ≡ true
  unfolding reloaded_from
  from_entries queue [] g = g
  from_entries queue (e ∷ l) g = from_entries (joined fewer queue (target_in rules old new e)) l (joined-entries fewer queue (target_in rules old new e) g)

  -- it names entries of the new table, none twice
  pub reloaded-entries : (l : List ℕ) → entries_of fewer (reloaded rules old new l) ≡ true
  unfolding entries_of
  reloaded-entries l = from_entries [] l refl

  from_front : (queue l : List ℕ) → (rest : List ℕ) × (after queue l ≡ queue ++ rest)
  unfolding reloaded_from
  from_front queue [] = ([], sym (append-nil queue))
  from_front queue (e ∷ l) =
      let (a, p) = joined-front fewer queue (target_in rules old new e) in
      let (b, q) = from_front (joined fewer queue (target_in rules old new e)) l in
      (a ++ b, q ∙ ap (λ (k : List ℕ). k ++ b) p ∙ append_assoc queue a b)

  -- the order is kept: what the first ones become comes first
  pub reloaded-append : (l k : List ℕ) → (rest : List ℕ) × (reloaded rules old new (l ++ k) ≡ reloaded rules old new l ++ rest)
  reloaded-append l k = let (rest, e) = from_front (reloaded rules old new l) k in (rest, from-append [] l k ∙ e)

  from-keeps : (queue l : List ℕ) (x : ℕ) → is_waiting x queue ≡ true → is_waiting x (after queue l) ≡ true
  from-keeps queue l x t = let (rest, e) = from_front queue l in rw e (waits-append x queue rest ∙ rw t)

  target-waits : (queue l : List ℕ) (e : ℕ) → is_waiting e l ≡ true → target_in rules old new e < fewer → is_waiting (target_in rules old new e) (after queue l) ≡ true
  unfolding is_waiting reloaded_from
  target-waits queue [] e w h = absurd (true≢false (sym w))
  target-waits queue (y ∷ l) e w h = go (eqb y e) refl w (target-waits (joined fewer queue (target_in rules old new y)) l e)
    where
      go : (b : Bool) → eqb y e ≡ b → (b || is_waiting e l) ≡ true
          → (is_waiting e l ≡ true → target_in rules old new e < fewer → is_waiting (target_in rules old new e) (after (joined fewer queue (target_in rules old new y)) l) ≡ true)
          → is_waiting (target_in rules old new e) (after (joined fewer queue (target_in rules old new y)) l) ≡ true
      go false q v later = later v h
      go true q v later =
          let is = eqb-true y e q in
          rw (ap (target_in rules old new) is) (from-keeps (joined fewer queue (target_in rules old new e)) l (target_in rules old new e) (joined-there fewer queue (target_in rules old new e) h))

  -- a queued entry stays as long as any entry of the new table means the same
  pub still-waits : (l : List ℕ) (e j : ℕ) → is_waiting e l ≡ true → j < fewer → same_in rules old e new j ≡ true
      → (k : ℕ) × (is_waiting k (reloaded rules old new l) ≡ true) × (same_in rules old e new k ≡ true)
  still-waits l e j w h t =
      let there = target-there rules old new e j h t in
      (target_in rules old new e, target-waits [] l e w there, target-same rules old new e there)

  from-waiting : (queue l : List ℕ) (j : ℕ) → is_waiting j (after queue l) ≡ true
      → (is_waiting j queue ≡ true) ⊎ ((e : ℕ) × (is_waiting e l ≡ true) × (target_in rules old new e ≡ j) × (j < fewer))
  unfolding is_waiting reloaded_from
  from-waiting queue [] j w = inl w
  from-waiting queue (y ∷ l) j w = ⊎_elim here behind (from-waiting (joined fewer queue (target_in rules old new y)) l j w)
    where
      behind : ((e : ℕ) × (is_waiting e l ≡ true) × (target_in rules old new e ≡ j) × (j < fewer))
          → (is_waiting j queue ≡ true) ⊎ ((e : ℕ) × ((eqb y e || is_waiting e l) ≡ true) × (target_in rules old new e ≡ j) × (j < fewer))
      behind (e, t, is, h) = inr (e, rw t (or-true (eqb y e)), is, h)

      here : is_waiting j (joined fewer queue (target_in rules old new y)) ≡ true
          → (is_waiting j queue ≡ true) ⊎ ((e : ℕ) × ((eqb y e || is_waiting e l) ≡ true) × (target_in rules old new e ≡ j) × (j < fewer))
      here t = ⊎_elim inl (λ v. inr (y, rw (eq-eqb y y refl), v.0, rw v.0 at v.1)) (joined-from fewer queue (target_in rules old new y) j t)

  -- and an entry that is queued then was queued before, as one that becomes it and means the same
  pub was-waiting : (l : List ℕ) (j : ℕ) → is_waiting j (reloaded rules old new l) ≡ true
      → (e : ℕ) × (is_waiting e l ≡ true) × (target_in rules old new e ≡ j) × (same_in rules old e new j ≡ true)
  unfolding is_waiting
  was-waiting l j w = ⊎_elim (λ t. absurd (true≢false (sym t))) one (from-waiting [] l j w)
    where
      one : ((e : ℕ) × (is_waiting e l ≡ true) × (target_in rules old new e ≡ j) × (j < fewer))
          → (e : ℕ) × (is_waiting e l ≡ true) × (target_in rules old new e ≡ j) × (same_in rules old e new j ≡ true)
      one (e, t, is, h) = (e, t, is, rw is at (target-same rules old new e (rw is h)))

-- the same table leaves the queue as it is
from-self : (rules : Rules) (s queue l : List ℕ) → entries_of (count_in (table_of rules s)) l ≡ true → ((x : ℕ) → is_waiting x l ≡ true → is_waiting x queue ≡ false)
    → reloaded_from rules s s queue l ≡ queue ++ l
unfolding reloaded_from is_waiting
from-self rules s queue [] g new = sym (append-nil queue)
from-self rules s queue (y ∷ l) g new =
    rw (target-self rules s y c.0, joined_in (count_in (table_of rules s)) queue y (rw (lt-ltb y (count_in (table_of rules s)) c.0, new y (rw (eq-eqb y y refl)))))
    (from-self rules s (queue ++ y ∷ []) l c.2 others ∙ append_assoc queue (y ∷ []) l)
  where
    c : (y < count_in (table_of rules s)) × (is_waiting y l ≡ false) × (entries_of (count_in (table_of rules s)) l ≡ true)
    c = entries-cons (count_in (table_of rules s)) y l g

    others : (x : ℕ) → is_waiting x l ≡ true → is_waiting x (queue ++ y ∷ []) ≡ false
    others x t =
        let apart : eqb y x ≡ false = ne_eqb y x (λ e. true≢false (sym t ∙ rw (sym e) c.1)) in
        waits-append x queue (y ∷ []) ∙ rw (new x (rw t (or-true (eqb y x))), apart)

pub reloaded-self : (rules : Rules) (s l : List ℕ) → entries_of (count_in (table_of rules s)) l ≡ true → reloaded rules s s l ≡ l
unfolding is_waiting
reloaded-self rules s l g = from-self rules s [] l g (λ x _. refl)

-- ---- entry by entry, as a loop makes it

-- what holds after the entries before a place of queue l: the first `count` of a full array are those, and they are the bits of a set
pub record Keeps (rules : Rules) (old new l es bits : List ℕ) (count place : ℕ) : Type 0 where
  pub full : length es ≡ max_entries
  pub wide : length bits ≡ bit_set_words
  pub is : take count es ≡ reloaded rules old new (take place l)
  pub queued : (x : ℕ) → has_member bits x ≡ is_waiting x (reloaded rules old new (take place l))
  pub few : count ≤ place
  pub up_to : place ≤ length l

module _ (rules : Rules) (old new l : List ℕ) where
  pub keeps-none : (es : List ℕ) → length es ≡ max_entries → Keeps rules old new l es (replicate bit_set_words 0) 0 0
  unfolding reloaded_from is_waiting
  keeps-none es h = record { full = h; wide = refl; is = refl; queued = λ x. no_member bit_set_words x; few = omega arith; up_to = omega arith }

  -- no more wait than the array has places
  pub keeps-fit : entries_of (count_in (table_of rules old)) l ≡ true → length l ≤ max_entries
  keeps-fit e = omega (arith, entries-length (count_in (table_of rules old)) l e, (table-sound rules old).few)

  one_more : (e place : ℕ) → place < length l → get_or l place 0 ≡ e
      → reloaded rules old new (take (place + 1) l) ≡ joined (count_in (table_of rules new)) (reloaded rules old new (take place l)) (target_in rules old new e)
  unfolding reloaded_from
  one_more e place h at = ap (reloaded rules old new) (take_next l place e h at) ∙ from-append rules old new [] (take place l) (e ∷ [])

  module _ {es bits : List ℕ} {count place : ℕ} (k : Keeps rules old new l es bits count place) (h : place < length l) (e : ℕ) (at : get_or l place 0 ≡ e)
      {t : ℕ} (target : t ≡ target_in rules old new e) {n : ℕ} (all : n ≡ count_in (table_of rules new)) {b : Bool} (has : b ≡ has_member bits t) where
    abbrev before : List ℕ
    before = reloaded rules old new (take place l)

    -- the test, as code makes it
    test : {c : Bool} → (ltb t n && not b) ≡ c → joins (count_in (table_of rules new)) before (target_in rules old new e) ≡ c
    test c = rw (← (k.queued (target_in rules old new e)), ← target, ← all, ← has) c

    pub keeps-out : (ltb t n && not b) ≡ false → Keeps rules old new l es bits count (place + 1)
    keeps-out f =
        let same = one_more e place h at ∙ joined-out (count_in (table_of rules new)) before (target_in rules old new e) (test f) in
        record { full = k.full; wide = k.wide; is = k.is ∙ sym same; queued = λ x. k.queued x ∙ ap (is_waiting x) (sym same); few = omega (arith, k.few); up_to = omega arith }

    pub keeps-in : (ltb t n && not b) ≡ true → length l ≤ max_entries → Keeps rules old new l (set es count t) (with_member bits t) (count + 1) (place + 1)
    unfolding is_waiting
    keeps-in f small =
        let same = one_more e place h at ∙ joined_in (count_in (table_of rules new)) before (target_in rules old new e) (test f) in
        let inside = (joins-is (count_in (table_of rules new)) before (target_in rules old new e) (test f)).0 in
        let fits : count < length es = omega (arith, k.few, k.full) in
        let room : t / 64 < length bits = omega (arith, k.wide, target, inside, (table-sound rules new).few) in
        record {
          full = simp length-set k.full;
          wide = with-length bits t ∙ k.wide;
          is = rw (add-one count, take-suc-set es count t fits, k.is, target) (sym same);
          queued = λ x. with-member bits t room x ∙ swapped x ∙ ap (is_waiting x) (sym same);
          few = omega (arith, k.few);
          up_to = omega arith;
        }
      where
        swap : (a c : Bool) → (a || c) ≡ (c || (a || false))
        swap true true = refl
        swap true false = refl
        swap false true = refl
        swap false false = refl

        swapped : (x : ℕ) → (eqb t x || has_member bits x) ≡ is_waiting x (before ++ target_in rules old new e ∷ [])
        swapped x = rw (target, k.queued x) (swap (eqb (target_in rules old new e) x) (is_waiting x before)) ∙ sym (waits-append x before (target_in rules old new e ∷ []))

  pub keeps-all : {es bits : List ℕ} {count place : ℕ} → Keeps rules old new l es bits count place → length l ≤ place → take count es ≡ reloaded rules old new l
  keeps-all k h = k.is ∙ ap (reloaded rules old new) (take_all _ l h)
