-- What a record means: a body has at most the one item whose body it is, and is refused with R24 exactly where no line means it.
-- Assumes nothing.
use mathlib.Core.Path.{◌≡◌, refl, sym, ap, ◌∙◌}
use mathlib.Core.Bool.{Bool, true, false, cond, ◌&&◌, ◌||◌, false≢true, and-eq-true_iff}
use mathlib.Core.List.{List, [], ◌∷◌}
use mathlib.Core.Logic.{◌⊎◌, inl, inr}
use Prim.Native.Nat.{ℕ, ◌+◌, ◌≤◌}
use native.Mathlib.Omega.{arith}
use lib.ListN.{length, drop, length-append}
use lib.Dec.{eqb, leb, ltb}
use borrow.Author.Tests.{lt-leb, leb-true, ltb-true, eqb-true, eqb-false}
use Rattle.refusal.specs.declared.Refusal.TheVariants.{UnknownKind, Meaningless}
use Rattle.octets.specs.declared.class.Class.TheVariants.{InLine}
use Rattle.octets.specs.Runs.{are_of, between}
use Rattle.octets.proofs.LittleEndian.{Bytes, length-little_endian}
use Rattle.field.specs.declared.Dialect.{Dialect}
use Rattle.normal.specs.Meanings.{Item, setting, boot, timed, line_items}
use Rattle.normal.specs.Texts.{item_text}
use Rattle.normal.specs.Proper.{is_schedule, is_command, is_item, are_items}
use Rattle.normal.proofs.Theorems.{line-proper, line-back, schedule-small, item-clean}
use Rattle.records.specs.Refusals.{meaningless}
use Rattle.records.specs.Formats.{kind_of, body_of}
use Rattle.records.specs.Readings.{number_at, schedule_at, timed_in, setting_in, Content, skipped, refused, means, meant, is_skipped, content_of, skipped_from}
use Rattle.records.specs.Writers.{LineMeans, longest_body, Encodable}
use Rattle.records.proofs.Bodies.{timed-body, setting-body, body_back}

-- ---- an item's body

-- the kind and the body are those of an item that a line can mean
pub record Body (kind : ℕ) (body : List ℕ) (i : Item) : Type 0 where
  pub same_kind : kind_of i ≡ kind
  pub same_body : body_of i ≡ body
  pub proper : is_item i ≡ true

abbrev is_meaning : Content → Bool
is_meaning skipped = false
is_meaning (refused n) = false
is_meaning (means i) = true

abbrev item_or : Item → Content → Item
item_or j skipped = j
item_or j (refused n) = j
item_or j (means i) = i

-- the one item that is meant
meant-one : (kind : ℕ) (x i : Item) → meant kind (x ∷ []) ≡ means i → (is_item i ≡ true) × (x ≡ i) × (kind_of i ≡ kind)
unfolding meant
meant-one kind x i e = go (eqb (kind_of x) kind) (is_item x) refl refl e
  where
    go : (a b : Bool) → eqb (kind_of x) kind ≡ a → is_item x ≡ b → cond (a && b) (means x) (refused Meaningless) ≡ means i → (is_item i ≡ true) × (x ≡ i) × (kind_of i ≡ kind)
    go true true k p e = let q : x ≡ i = ap (item_or i) e in (rw (← q) p, q, rw (← q) (eqb-true (kind_of x) kind k))
    go true false k p e = absurd (false≢true (ap is_meaning e))
    go false b k p e = absurd (false≢true (ap is_meaning e))

meant-none : {A : Type 0} (kind : ℕ) {i : Item} → meant kind [] ≡ means i → A
unfolding meant
meant-none kind e = absurd (false≢true (ap is_meaning e))

module _ (body : List ℕ) (i : Item) (bytes : Bytes body) (kind : ℕ) where
  timed-of : meant kind (timed_in body) ≡ means i → Body kind body i
  unfolding timed_in body_of
  timed-of = go (leb 20 (length body) && ltb (number_at body 19 1) 32) refl
    where
      go : (t : Bool) → (leb 20 (length body) && ltb (number_at body 19 1) 32) ≡ t
          → meant kind (cond t (timed (schedule_at body) (drop 20 body) ∷ []) []) ≡ means i → Body kind body i
      go true p e =
          let m = meant-one kind (timed (schedule_at body) (drop 20 body)) i e in
          let t = (and-eq-true_iff (leb 20 (length body)) (ltb (number_at body 19 1) 32)).0 p in
          record {
            same_kind = m.2;
            same_body = rw (← m.1) (timed-body body bytes (leb-true 20 (length body) t.0) (ltb-true (number_at body 19 1) 32 t.1));
            proper = m.0;
          }
      go false p e = meant-none kind e

  boot-of : meant kind (boot body ∷ []) ≡ means i → Body kind body i
  unfolding body_of
  boot-of e = let m = meant-one kind (boot body) i e in record { same_kind = m.2; same_body = rw (← m.1); proper = m.0 }

  setting-of : meant kind (setting_in body) ≡ means i → Body kind body i
  unfolding setting_in body_of
  setting-of = go (leb 2 (length body) && leb (2 + number_at body 0 2) (length body)) refl
    where
      value : ℕ
      value = 2 + number_at body 0 2

      go : (t : Bool) → (leb 2 (length body) && leb (2 + number_at body 0 2) (length body)) ≡ t
          → meant kind (cond t (setting (between body 2 (2 + number_at body 0 2)) (drop (2 + number_at body 0 2) body) ∷ []) []) ≡ means i → Body kind body i
      go true p e =
          let m = meant-one kind (setting (between body 2 (2 + number_at body 0 2)) (drop (2 + number_at body 0 2) body)) i e in
          let t = (and-eq-true_iff (leb 2 (length body)) (leb (2 + number_at body 0 2) (length body))).0 p in
          record {
            same_kind = m.2;
            same_body = rw (← m.1) (setting-body body bytes (leb-true 2 (length body) t.0) (leb-true (2 + number_at body 0 2) (length body) t.1));
            proper = m.0;
          }
      go false p e = meant-none kind e

  -- an item that is meant has that body
  pub body-of : content_of kind body ≡ means i → Body kind body i
  unfolding content_of
  body-of = go (is_skipped kind) (eqb kind 1) (eqb kind 2) (eqb kind 3 || eqb kind 4)
    where
      go : (a b c d : Bool)
          → cond a skipped (cond b (meant kind (timed_in body)) (cond c (meant kind (boot body ∷ [])) (cond d (meant kind (setting_in body)) (refused UnknownKind)))) ≡ means i → Body kind body i
      go true b c d e = absurd (false≢true (ap is_meaning e))
      go false true c d e = timed-of e
      go false false true d e = boot-of e
      go false false false true e = setting-of e
      go false false false false e = absurd (false≢true (ap is_meaning e))

-- ---- what a known kind says

meant-told : (kind : ℕ) (is : List Item) → (meant kind is ≡ refused meaningless) ⊎ ((i : Item) × (meant kind is ≡ means i))
unfolding meant
meant-told kind [] = inl refl
meant-told kind (i ∷ is) = go (eqb (kind_of i) kind && is_item i)
  where
    go : (t : Bool) → (cond t (means i) (refused Meaningless) ≡ refused Meaningless) ⊎ ((j : Item) × (cond t (means i) (refused Meaningless) ≡ means j))
    go true = inr (i, refl)
    go false = inl refl

kept-kind : (kind : ℕ) → kind ≤ 4 → is_skipped kind ≡ false
unfolding is_skipped
kept-kind kind high = rw (lt-leb skipped_from kind (omega arith))

pub content-told : (kind : ℕ) (body : List ℕ) → 1 ≤ kind → kind ≤ 4
    → (content_of kind body ≡ refused meaningless) ⊎ ((i : Item) × (content_of kind body ≡ means i))
unfolding content_of
content-told kind body low high =
    rw (kept-kind kind high) (go (eqb kind 1) (eqb kind 2) (eqb kind 3) (eqb kind 4) refl refl refl refl)
  where
    go : (a b c d : Bool) → eqb kind 1 ≡ a → eqb kind 2 ≡ b → eqb kind 3 ≡ c → eqb kind 4 ≡ d
        → let x = cond a (meant kind (timed_in body)) (cond b (meant kind (boot body ∷ [])) (cond (c || d) (meant kind (setting_in body)) (refused UnknownKind))) in
        (x ≡ refused Meaningless) ⊎ ((i : Item) × (x ≡ means i))
    go true b c d p q r u = meant-told kind (timed_in body)
    go false true c d p q r u = meant-told kind (boot body ∷ [])
    go false false true d p q r u = meant-told kind (setting_in body)
    go false false false true p q r u = meant-told kind (setting_in body)
    go false false false false p q r u =
        let past2 : 2 ≤ kind = omega (arith, eqb-false kind 1 p) in
        let past3 : 3 ≤ kind = omega (arith, past2, eqb-false kind 2 q) in
        let past4 : 4 ≤ kind = omega (arith, past3, eqb-false kind 3 r) in
        absurd (eqb-false kind 4 u (omega (arith, past4)))

-- ---- lines

pub encodable : (i : Item) → is_item i ≡ true → length (body_of i) ≤ longest_body → Encodable i
unfolding is_item body_of
encodable (timed s command) proper short =
    let w = schedule-small s ((and-eq-true_iff (is_schedule s) (is_command command)).0 proper).0 in
    record { minutes = w.0; hours = w.1; days = w.2; months = w.3; weekdays = w.4 }
encodable (boot command) proper short = tt
encodable (setting name value) proper short =
    omega (arith, simp (length-append, length-little_endian) at short)

-- a line that means an item is that item's
proper-line : (d : Dialect) (line : List ℕ) (i : Item) → are_of InLine line ≡ true → line_items d line ≡ i ∷ [] → is_item i ≡ true
unfolding are_items
proper-line d line i clean e = ((and-eq-true_iff (is_item i) true).0 (rw e at (line-proper d line clean))).0

module _ (kind : ℕ) (body : List ℕ) (bytes : Bytes body) (short : length body ≤ longest_body) where
  -- a line's item is the one that is meant
  pub line-means : (d : Dialect) (line : List ℕ) (m : LineMeans d kind body line) → content_of kind body ≡ means m.item
  line-means d line m =
      let proper = proper-line d line m.item m.clean m.items in
      let small : length (body_of m.item) ≤ longest_body = rw m.same_body short in
      rw (← m.same_kind, ← m.same_body) (body_back m.item (encodable m.item proper small) ∙ rw proper)

  -- and each that is meant has a line
  pub means-line : (d : Dialect) (i : Item) → content_of kind body ≡ means i → LineMeans d kind body (item_text i)
  means-line d i e =
      let b = body-of body i bytes kind e in
      record {
        clean = item-clean i b.proper;
        item = i;
        items = line-back d i b.proper;
        same_kind = b.same_kind;
        same_body = b.same_body;
      }

  pub no_line : (d : Dialect) → content_of kind body ≡ refused meaningless → (line : List ℕ) → LineMeans d kind body line → ⊥
  no_line d e line m = false≢true (ap is_meaning (sym e ∙ line-means d line m))

  pub no-line-back : (d : Dialect) → 1 ≤ kind → kind ≤ 4 → ((line : List ℕ) → LineMeans d kind body line → ⊥) → content_of kind body ≡ refused meaningless
  no-line-back d low high none =
      elim (content-told kind body low high) [ inl e ↦ e | inr (i, e) ↦ absurd (none (item_text i) (means-line d i e)) ]
