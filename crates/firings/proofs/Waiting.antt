-- Laws of the keys that wait in a tree.
-- Assumes nothing.
use mathlib.Core.Path.{◌≡◌, refl, sym, ap, ◌∙◌}
use mathlib.Core.Bool.{Bool, true, false, cond, true≢false}
use mathlib.Core.List.{List}
use Prim.Native.Nat.{ℕ, ◌+◌, ◌*◌, ◌/◌, ◌%◌, ◌≤◌, ◌<◌}
use native.Mathlib.Nat.{lt_of_not-le}
use native.Mathlib.Decide.{dec_le}
use native.Mathlib.Omega.{arith}
use lib.ListN.{get_or, replicate, get_or-replicate, length-replicate}
use lib.Dec.{eqb}
use borrow.Author.Tests.{lt-ltb, le-ltb, eqb-true, eqb-false, eq-eqb, ne_eqb}
use Rattle.octets.specs.Search.{from}
use Rattle.octets.proofs.Search.{from-least}
use Rattle.calendar.specs.Dates.{last_minute}
use Rattle.crontab.specs.declared.entry.Entry.{Entry}
use Rattle.crontab.specs.Tables.{blank_entry}
use Rattle.crontab.specs.Firings.{fires_at}
use Rattle.octets.specs.Passing.{passing_up_to}
use Rattle.firings.specs.Lists.{fires_in}
use Rattle.firings.specs.Keys.{is_firing, end_key, Tree, leaf, root, Waits, Tournament}
use Rattle.octets.proofs.Passing.{up-skip}
use Rattle.firings.proofs.Trees.{root-low, root-leaf}

-- ---- keys of an entry

module _ (fires : ℕ → ℕ → Bool) (count : ℕ) where
  pub firing-is : (k i : ℕ) → k % 512 ≡ i → i < count → is_firing fires count k ≡ fires i (k / 512)
  unfolding is_firing
  firing-is k i e h = rw (e, lt-ltb i count h)

  pub firing-none : (k : ℕ) → count ≤ k % 512 → is_firing fires count k ≡ false
  unfolding is_firing
  firing-none k h = rw (le-ltb (k % 512) count h)

  -- a firing is one of the entries'
  pub firing-entry : (k : ℕ) → is_firing fires count k ≡ true → k % 512 < count
  firing-entry k t = elim (dec_le count (k % 512)) [ yes h ↦ absurd (true≢false (sym t ∙ firing-none k h)) | no h ↦ lt_of_not-le h ]

-- an entry's first firing after minute m waits from any key on that is behind m's and not behind that of the next minute
pub waits-after : (entries : List Entry) (count i m at key : ℕ) → i < count → count ≤ 512 → m ≤ last_minute
    → m * 512 + i < at → at ≤ (m + 1) * 512 + i
    → key ≡ from (fires_at (get_or entries i blank_entry)) (last_minute + 1) (m + 1) * 512 + i
    → Waits (is_firing (fires_in entries) count) at i key
unfolding fires_in
waits-after entries count i m at key h few on low high e = go n refl
  where
    n : ℕ
    n = from (fires_at (get_or entries i blank_entry)) (last_minute + 1) (m + 1)

    go : (n : ℕ) → from (fires_at (get_or entries i blank_entry)) (last_minute + 1) (m + 1) ≡ n → Waits (is_firing (fires_in entries) count) at i key
    go n q =
        let l = rw q at (from-least (fires_at (get_or entries i blank_entry)) (last_minute + 1) (m + 1) (omega arith)) in
        let is : key ≡ n * 512 + i = rw q at e in
        let least = l.low in
        let entry : key % 512 ≡ i = omega arith in
        let minute : key / 512 ≡ n = omega arith in
        record {
          low = omega arith;
          entry = entry;
          fires = λ k. firing-is (fires_in entries) count key i entry h ∙ rw minute (l.passes (omega arith));
          none = λ k u v w. firing-is (fires_in entries) count k i w h ∙ l.none (k / 512) (omega arith) (omega arith);
        }

-- ---- a tree of them

module _ (test : ℕ → Bool) where
  pub planted-start : (at : ℕ) → Tournament test 0 at (replicate 1024 end_key)
  unfolding leaf
  planted-start at =
      record {
        shape = record {
          size = length-replicate 1024 end_key;
          node = λ k h l. rw (get_or-replicate 1024 k end_key 0 (omega arith), get_or-replicate 1024 (2 * k) end_key 0 (omega arith), get_or-replicate 1024 (2 * k + 1) end_key 0 (omega arith));
        };
        waits = λ i h. absurd (omega arith);
        others = λ i h l. rw (get_or-replicate 1024 (512 + i) end_key 0 (omega arith)) (omega arith);
      }

  pub planted-all : {n count at : ℕ} {tree : List ℕ} → n ≡ count → Tournament test n at tree → Tournament test count at tree
  planted-all e p = rw e at p

  module _ (tree : List ℕ) {now : List ℕ} (shape : Tree now) (i key : ℕ) (put : (j : ℕ) → j < 512 → leaf now j ≡ cond (eqb j i) key (leaf tree j)) where
    same : i < 512 → leaf now i ≡ key
    same h = put i h ∙ rw (eq-eqb i i refl)

    other : (j : ℕ) → j < 512 → (j ≡ i → ⊥) → leaf now j ≡ leaf tree j
    other j h d = put j h ∙ rw (ne_eqb j i d)

    -- one entry more
    pub planted-more : {at : ℕ} → i < 512 → Tournament test i at tree → Waits test at i key → Tournament test (i + 1) at now
    planted-more {at} h p w =
        record {
          shape = shape;
          waits = λ j k. go j k (eqb j i) refl;
          others = λ j k l. rw (other j l (λ z. omega arith)) (p.others j (omega arith) l);
        }
      where
        go : (j : ℕ) → j < i + 1 → (b : Bool) → eqb j i ≡ b → Waits test at j (leaf now j)
        go j k true z = let e = eqb-true j i z in rw (e, same h) w
        go j k false z = let d = eqb-false j i z in
            elim (dec_le i j) [ yes x ↦ absurd (d (omega arith)) | no x ↦ rw (other j (omega arith) d) (p.waits j (lt_of_not-le x)) ]

    -- the root's entry has its next firing, and the others wait on
    pub planted-next : {count : ℕ} → count ≤ 512 → i < count → Tournament test count (root tree) tree → root tree % 512 ≡ i → Waits test (root tree + 1) i key
        → Tournament test count (root tree + 1) now
    planted-next {count} few h p is w =
        record {
          shape = shape;
          waits = λ j k. go j k (eqb j i) refl;
          others = λ j k l. rw (other j l (λ z. omega arith)) (p.others j k l);
        }
      where
        go : (j : ℕ) → j < count → (b : Bool) → eqb j i ≡ b → Waits test (root tree + 1) j (leaf now j)
        go j k true z = let e = eqb-true j i z in rw (e, same (omega arith)) w
        go j k false z =
            let d = eqb-false j i z in
            let q = p.waits j k in
            rw (other j (omega arith) d)
            (record {
              low = elim (dec_le (leaf tree j) (root tree)) [ yes x ↦ absurd (d (meets q x)) | no x ↦ omega (arith, lt_of_not-le x) ];
              entry = q.entry;
              fires = q.fires;
              none = λ x u v y. q.none x (omega arith) v y;
            })
          where
            meets : Waits test (root tree) j (leaf tree j) → leaf tree j ≤ root tree → j ≡ i
            meets q x = let e : leaf tree j ≡ root tree = omega (arith, q.low) in sym q.entry ∙ ap (λ (y : ℕ). y % 512) e ∙ is

-- ---- the root is the next firing of all

module _ (fires : ℕ → ℕ → Bool) (count at : ℕ) (tree : List ℕ) (p : Tournament (is_firing fires count) count at tree) where
  -- no firing before it
  before_root : (k : ℕ) → at ≤ k → k < root tree → is_firing fires count k ≡ false
  before_root k h l = elim (dec_le count (k % 512)) [ yes x ↦ firing-none fires count k x | no x ↦ waiting (lt_of_not-le x) ]
    where
      waiting : k % 512 < count → is_firing fires count k ≡ false
      waiting x = (p.waits (k % 512) x).none k h (omega (arith, root-low tree p.shape (k % 512) (omega arith))) refl

  pub root-skip : at ≤ root tree → (b : ℕ) → passing_up_to (is_firing fires count) b at ≡ passing_up_to (is_firing fires count) b (root tree)
  root-skip h b = up-skip (is_firing fires count) b at (root tree) h before_root

  pub root-fires : root tree < end_key → is_firing fires count (root tree) ≡ true
  root-fires h =
      let (i, l, e) = root-leaf tree p.shape in
      elim (dec_le count i) [
        | yes x ↦ absurd (omega (arith, p.others i x l, e))
        | no x ↦ rw e at ((p.waits i (lt_of_not-le x)).fires (omega (arith, e)))
      ]

  -- the entries wait from it on
  pub planted-root : at ≤ root tree → count ≤ 512 → Tournament (is_firing fires count) count (root tree) tree
  planted-root h few =
      record {
        shape = p.shape;
        waits = λ i k. let q = p.waits i k in
            record {
              low = root-low tree p.shape i (omega arith);
              entry = q.entry;
              fires = q.fires;
              none = λ x u v y. q.none x (omega arith) v y;
            };
        others = p.others;
      }

  pub root-at : at ≤ end_key → at ≤ root tree
  root-at h =
      let (i, l, e) = root-leaf tree p.shape in
      elim (dec_le count i) [
        | yes x ↦ omega (arith, p.others i x l, e)
        | no x ↦ omega (arith, (p.waits i (lt_of_not-le x)).low, e)
      ]
