-- Laws of lines: who waits, and that a line of n entries has at most n.
-- Assumes nothing.
use mathlib.Core.Path.{◌≡◌, refl, sym, ap, ◌∙◌}
use mathlib.Core.Bool.{Bool, true, false, not, cond, ◌&&◌, ◌||◌, false≢true, and-eq-true_iff, and-false, or-true, or-false}
use mathlib.Mathlib.Data.Bool.Basic.{or-eq-false-eq-eq-false-and-eq-false}
use mathlib.Core.List.{List, [], ◌∷◌, ◌++◌, append_assoc, append-nil}
use Prim.Native.Nat.{ℕ, zero, suc, ◌+◌, ◌≤◌, ◌<◌}
use native.Mathlib.Omega.{arith}
use native.Mathlib.Nat.{lt_of_not-le}
use native.Mathlib.Decide.{dec_le, ℕ_discrete}
use lib.Dec.{ltb, eqb}
use native.Mathlib.Numerals.{add-one}
use lib.ListN.{length, length-append, get_or, take, drop}
use lib.Seq.{split_at, take-suc}
use borrow.Author.Tests.{ltb-true, eqb-true, eqb-false, lt-ltb, le-ltb, eq-eqb, ne_eqb, not-true}
use Rattle.fifo.specs.Queues.{is_waiting, entries_of, pick}
use Rattle.fifo.specs.Steps.{behind}

-- ---- who waits

pub waits-append : (e : ℕ) (l k : List ℕ) → is_waiting e (l ++ k) ≡ (is_waiting e l || is_waiting e k)
unfolding is_waiting
waits-append e [] k = refl
waits-append e (x ∷ l) k = go (eqb x e) (waits-append e l k)
  where
    go : (b : Bool) → is_waiting e (l ++ k) ≡ (is_waiting e l || is_waiting e k) → (b || is_waiting e (l ++ k)) ≡ (b || is_waiting e l || is_waiting e k)
    go true h = refl
    go false h = h

-- ---- lines of n entries

pub entries-cons : (n x : ℕ) (l : List ℕ) → entries_of n (x ∷ l) ≡ true → (x < n) × (is_waiting x l ≡ false) × (entries_of n l ≡ true)
unfolding entries_of
entries-cons n x l e =
    let both = (and-eq-true_iff (ltb x n && not (is_waiting x l)) (entries_of n l)).0 e in
    let two = (and-eq-true_iff (ltb x n) (not (is_waiting x l))).0 both.0 in
    (ltb-true x n two.0, not-true (is_waiting x l) two.1, both.1)

entries-more : (n x : ℕ) (l : List ℕ) → x < n → is_waiting x l ≡ false → entries_of n l ≡ true → entries_of n (x ∷ l) ≡ true
unfolding entries_of
entries-more n x l h q e = rw (lt-ltb x n h, q, e)

-- an entry that doesn't wait joins at the back
pub entries-snoc : (n : ℕ) (l : List ℕ) (x : ℕ) → entries_of n l ≡ true → x < n → is_waiting x l ≡ false → entries_of n (l ++ x ∷ []) ≡ true
unfolding is_waiting entries_of
entries-snoc n [] x e h q = entries-more n x [] h refl refl
entries-snoc n (y ∷ l) x e h q =
    let c = entries-cons n y l e in
    let o = (or-eq-false-eq-eq-false-and-eq-false (eqb y x) (is_waiting x l)).0 q in
    let d : eqb x y ≡ false = ne_eqb x y (λ r. eqb-false y x o.0 (sym r)) in
    let w : is_waiting y (l ++ x ∷ []) ≡ false = waits-append y l (x ∷ []) ∙ rw (c.1, d) in
    entries-more n y (l ++ x ∷ []) c.0 w (entries-snoc n l x c.2 h o.1)

-- a line with such an entry is none of n entries, whatever stands behind
pub entries_over : (n : ℕ) (l : List ℕ) (x : ℕ) (k : List ℕ) → n ≤ x → entries_of n (l ++ x ∷ k) ≡ false
unfolding entries_of
entries_over n [] x k h = rw (le-ltb x n h)
entries_over n (y ∷ l) x k h = rw (entries_over n l x k h) (and-false (ltb y n && not (is_waiting y (l ++ x ∷ k))))

pub entries_twice : (n : ℕ) (l : List ℕ) (x : ℕ) (k : List ℕ) → is_waiting x l ≡ true → entries_of n (l ++ x ∷ k) ≡ false
unfolding entries_of is_waiting
entries_twice n [] x k q = absurd (false≢true q)
entries_twice n (y ∷ l) x k q = go (eqb y x) refl q (λ r. entries_twice n l x k r)
  where
    go : (b : Bool) → eqb y x ≡ b → (b || is_waiting x l) ≡ true → (is_waiting x l ≡ true → entries_of n (l ++ x ∷ k) ≡ false)
        → (ltb y n && not (is_waiting y (l ++ x ∷ k)) && entries_of n (l ++ x ∷ k)) ≡ false
    go true r t later =
        let here : is_waiting y (l ++ x ∷ k) ≡ true = waits-append y l (x ∷ k) ∙ rw (eq-eqb x y (sym (eqb-true y x r))) (or-true (is_waiting y l)) in
        rw (here, and-false (ltb y n))
    go false r t later = rw (later t) (and-false (ltb y n && not (is_waiting y (l ++ x ∷ k))))

-- the first of a line is out of it, and the others stay
pub entries-behind : (n : ℕ) (l : List ℕ) → entries_of n l ≡ true → entries_of n (behind l) ≡ true
unfolding behind
entries-behind n [] e = e
entries-behind n (x ∷ l) e = (entries-cons n x l e).2

-- ---- a line of n entries has at most n of them

without : ℕ → List ℕ → List ℕ
without n [] = []
without n (x ∷ l) = let rest = without n l in cond (eqb x n) rest (x ∷ rest)

without-none : (n : ℕ) (l : List ℕ) → is_waiting n l ≡ false → without n l ≡ l
unfolding without is_waiting
without-none n [] q = refl
without-none n (x ∷ l) q = let o = (or-eq-false-eq-eq-false-and-eq-false (eqb x n) (is_waiting n l)).0 q in rw (o.0, without-none n l o.1)

without-waits : (n y : ℕ) (l : List ℕ) → is_waiting y l ≡ false → is_waiting y (without n l) ≡ false
unfolding without is_waiting
without-waits n y [] q = refl
without-waits n y (x ∷ l) q = let o = (or-eq-false-eq-eq-false-and-eq-false (eqb x y) (is_waiting y l)).0 q in go (eqb x n) o.0 (without-waits n y l o.1)
  where
    go : (b : Bool) → eqb x y ≡ false → is_waiting y (without n l) ≡ false → is_waiting y (cond b (without n l) (x ∷ without n l)) ≡ false
    go true o h = h
    go false o h = rw (o, h)

without-entries : (n : ℕ) (l : List ℕ) → entries_of (suc n) l ≡ true → (entries_of n (without n l) ≡ true) × (length l ≤ suc (length (without n l)))
unfolding without entries_of
without-entries n [] e = (refl, omega arith)
without-entries n (x ∷ l) e = go (eqb x n) refl (entries-cons (suc n) x l e) (without-entries n l (entries-cons (suc n) x l e).2)
  where
    go : (b : Bool) → eqb x n ≡ b → (x < suc n) × (is_waiting x l ≡ false) × (entries_of (suc n) l ≡ true)
        → (entries_of n (without n l) ≡ true) × (length l ≤ suc (length (without n l)))
        → (entries_of n (cond b (without n l) (x ∷ without n l)) ≡ true) × (length (x ∷ l) ≤ suc (length (cond b (without n l) (x ∷ without n l))))
    go true q c h =
        let same : x ≡ n = eqb-true x n q in
        let none : without n l ≡ l = without-none n l (rw same at c.1) in
        (h.0, omega (arith, ap length none))
    go false q c h =
        let less : x < n = omega (arith, c.0, eqb-false x n q) in
        (entries-more n x (without n l) less (without-waits n x l c.1) h.0, omega (arith, h.1))

pub entries-length : (n : ℕ) (l : List ℕ) → entries_of n l ≡ true → length l ≤ n
entries-length zero [] e = omega arith
entries-length zero (x ∷ l) e = absurd (omega (arith, (entries-cons 0 x l e).0))
entries-length (suc n) l e =
    let w = without-entries n l e in
    omega (arith, w.1, entries-length n (without n l) w.0)

-- ---- who is picked

-- tests that agree pick the same
pub pick_same : (p q : ℕ → Bool) (n : ℕ) → ((e : ℕ) → e < n → p e ≡ q e) → pick p n ≡ pick q n
unfolding pick
pick_same p q zero h = refl
pick_same p q (suc n) h = rw (pick_same p q n (λ e k. h e (omega arith)), h n (omega arith))

-- no more than there are
pub pick-length : (p : ℕ → Bool) (n : ℕ) → length (pick p n) ≤ n
unfolding pick
pick-length p zero = omega arith
pick-length p (suc n) = omega (arith, length-append (pick p n) (cond (p n) (n ∷ []) []), one (p n), pick-length p n)
  where
    one : (b : Bool) → length (cond b (n ∷ []) []) ≤ 1
    one true = omega arith
    one false = omega arith

pub waits-pick : (p : ℕ → Bool) (n e : ℕ) → is_waiting e (pick p n) ≡ (ltb e n && p e)
unfolding is_waiting pick
waits-pick p zero e = rw (le-ltb e 0 (omega arith))
waits-pick p (suc n) e =
    rw (waits-append e (pick p n) (cond (p n) (n ∷ []) []), waits-pick p n e)
    (elim (ℕ_discrete n e) [ yes q ↦ same q | no q ↦ other (p n) q ])
  where
    same : n ≡ e → (ltb e n && p e || is_waiting e (cond (p n) (n ∷ []) [])) ≡ (ltb e (suc n) && p e)
    same q = rw (← q, le-ltb n n (omega arith), lt-ltb n (suc n) (omega arith)) (last (p n))
      where
        last : (b : Bool) → is_waiting n (cond b (n ∷ []) []) ≡ b
        last true = rw (eq-eqb n n refl)
        last false = refl

    other : (b : Bool) → (n ≡ e → ⊥) → (ltb e n && p e || is_waiting e (cond b (n ∷ []) [])) ≡ (ltb e (suc n) && p e)
    other b q = rw (none b) (elim (dec_le n e) [ yes h ↦ above h | no h ↦ under (lt_of_not-le h) ])
      where
        none : (b : Bool) → is_waiting e (cond b (n ∷ []) []) ≡ false
        none true = rw (ne_eqb n e q)
        none false = refl

        above : n ≤ e → (ltb e n && p e || false) ≡ (ltb e (suc n) && p e)
        above h = rw (le-ltb e n h, le-ltb e (suc n) (omega arith))

        under : e < n → (ltb e n && p e || false) ≡ (ltb e (suc n) && p e)
        under h = rw (lt-ltb e n h, lt-ltb e (suc n) (omega arith)) (or-false (p e))

-- the picked ones join a line in which none of them waits
pub entries-pick : (n : ℕ) (l : List ℕ) (p : ℕ → Bool) → ((e : ℕ) → p e ≡ true → is_waiting e l ≡ false) → entries_of n l ≡ true
    → (k : ℕ) → k ≤ n → entries_of n (l ++ pick p k) ≡ true
unfolding pick
entries-pick n l p new e zero h = rw append-nil e
entries-pick n l p new e (suc k) h = go (p k) refl (entries-pick n l p new e k (omega arith))
  where
    go : (b : Bool) → p k ≡ b → entries_of n (l ++ pick p k) ≡ true → entries_of n (l ++ (pick p k ++ cond b (k ∷ []) [])) ≡ true
    go true q m =
        let out : is_waiting k (l ++ pick p k) ≡ false = waits-append k l (pick p k) ∙ rw (new k q, waits-pick p k k, le-ltb k k (omega arith)) in
        rw (← append_assoc) (entries-snoc n (l ++ pick p k) k m (omega arith) out)
    go false q m = rw append-nil m

-- ---- a line cut at place i, as a loop meets it

module _ (l : List ℕ) (i x : ℕ) (h : i < length l) (at : get_or l i 0 ≡ x) where
  cut : l ≡ take i l ++ x ∷ drop (suc i) l
  cut = split_at l i 0 h ∙ ap (λ (y : ℕ). take i l ++ y ∷ drop (suc i) l) at

  pub cut-over : (n : ℕ) → n ≤ x → entries_of n l ≡ false
  cut-over n k = ap (entries_of n) cut ∙ entries_over n (take i l) x (drop (suc i) l) k

  pub cut_twice : (n : ℕ) → is_waiting x (take i l) ≡ true → entries_of n l ≡ false
  cut_twice n k = ap (entries_of n) cut ∙ entries_twice n (take i l) x (drop (suc i) l) k

  pub take_next : take (i + 1) l ≡ take i l ++ x ∷ []
  take_next = rw (add-one i) (take-suc l i 0 h ∙ ap (λ (y : ℕ). take i l ++ y ∷ []) at)
