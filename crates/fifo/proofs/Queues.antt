-- Laws of a queue in its buffer: what is written there, and that it is read back.
-- Assumes nothing.
use mathlib.Core.Path.{◌≡◌, refl, sym, ap, ◌∙◌}
use mathlib.Core.Bool.{true, false, ◌&&◌, and-eq-true_iff}
use mathlib.Core.List.{List, [], ◌∷◌, ◌++◌}
use Prim.Native.Nat.{ℕ, zero, suc, ◌+◌, ◌-◌, ◌*◌, ◌/◌, ◌%◌, ◌≤◌, ◌<◌}
use native.Mathlib.Omega.{arith}
use native.Mathlib.Numerals.{add-one}
use native.Mathlib.Nat.{le_refl, lt_of_not-le}
use native.Mathlib.Decide.{dec_le}
use lib.Dec.{leb, eqb}
use borrow.Author.Tests.{leb-true, le-leb, lt-leb, eqb-true}
use lib.ListN.{length, get_or, take, drop, length-append, length-drop, take-append-drop}
use lib.Seq.{take-append_seam, drop-append-add, drop-drop}
use Rattle.std.specs.Prelude.{Option, Some, None}
use Rattle.octets.specs.OverFront as front
use Rattle.calendar.specs.Dates.{last_minute}
use Rattle.schedule.specs.Jumps.{is_mark}
use Rattle.fifo.specs.Queues.{Queue, entries_of, proper}
use Rattle.fifo.specs.Layout.{limit, numbers, bytes, number32, format_number, mark_number, mark_from, layout, format_of, mark_of, count_of, queue_of, image, stored, queue_size, roomy, is_head, is_queue}
use Rattle.fifo.proofs.WaitingEntries.{entries-cons, entries-length}
use Rattle.fifo.proofs.Numbers.{Bytes, Numbers, length-bytes, length-numbers, numbers-small, numbers-bytes, bytes-numbers, waiting-length}

-- ---- a text over the front

pub front_length : (t s : List ℕ) → length t ≤ length s → length (front.over_front t s) ≡ length s
unfolding front.over_front
front_length t s h = length-append t (drop (length t) s) ∙ omega (arith, length-drop (length t) s)

-- of two texts written one after the other the second is seen, where it is as long as the first
pub front-again : (t u s : List ℕ) → length u ≤ length t → front.over_front t (front.over_front u s) ≡ front.over_front t s
unfolding front.over_front
front-again t u s h =
    let more : length t ≡ length u + (length t - length u) = omega arith in
    ap (λ (r : List ℕ). t ++ r)
    (ap (λ (n : ℕ). drop n (u ++ drop (length u) s)) more
    ∙ drop-append-add u (drop (length u) s) (length t - length u)
    ∙ drop-drop (length t - length u) (length u) s
    ∙ ap (λ (n : ℕ). drop n s) (sym more))

-- ---- a queue over the front

pub length-layout : (l : Queue) → length (layout l) ≡ 5 + length l.waiting
unfolding layout
length-layout l = omega arith

pub length-image : (l : Queue) → length (image l) ≡ queue_size (length l.waiting)
unfolding image
length-image l = omega (arith, length-bytes (layout l), length-layout l)

pub laid-laid : (l k : Queue) (s : List ℕ) → length k.waiting ≤ length l.waiting → stored l (stored k s) ≡ stored l s
unfolding stored
laid-laid l k s h = front-again (image l) (image k) s (omega (arith, length-image l, length-image k))

pub length-laid : (l : Queue) (s : List ℕ) → queue_size (length l.waiting) ≤ length s → length (stored l s) ≡ length s
unfolding stored
length-laid l s h = front_length (image l) s (omega (arith, length-image l))

-- a buffer that a queue was written to holds it
pub holds-laid : (l : Queue) (s : List ℕ) → stored l (stored l s) ≡ stored l s
holds-laid l s = laid-laid l l s (le_refl (length l.waiting))

-- ---- room

-- as code tests it
pub roomy-short : (n : ℕ) (s : List ℕ) → length s / 2 < 5 → false ≡ roomy n s
unfolding roomy
roomy-short n s h = sym (lt-leb (queue_size n) (length s) (omega arith))

pub roomy-half : (n : ℕ) (s : List ℕ) → 5 ≤ length s / 2 → leb n (length s / 2 - 5) ≡ roomy n s
unfolding roomy
roomy-half n s long = elim (dec_le (queue_size n) (length s)) [ yes h ↦ enough h | no h ↦ short (lt_of_not-le h) ]
  where
    enough : queue_size n ≤ length s → leb n (length s / 2 - 5) ≡ leb (queue_size n) (length s)
    enough h = le-leb n (length s / 2 - 5) (omega arith) ∙ sym (le-leb (queue_size n) (length s) h)

    short : length s < queue_size n → leb n (length s / 2 - 5) ≡ leb (queue_size n) (length s)
    short h = lt-leb n (length s / 2 - 5) (omega arith) ∙ sym (lt-leb (queue_size n) (length s) h)

pub roomy-size : (n : ℕ) (s : List ℕ) → roomy n s ≡ true → queue_size n ≤ length s
unfolding roomy
roomy-size n s r = leb-true (queue_size n) (length s) r

-- ---- what a queue of n entries is

pub is-proper : (n : ℕ) (l : Queue) → proper n l ≡ true → (is_mark l.mark ≡ true) × (entries_of n l.waiting ≡ true)
unfolding proper
is-proper n l e = (and-eq-true_iff (is_mark l.mark) (entries_of n l.waiting)).0 e

pub make-proper : (n : ℕ) (l : Queue) → is_mark l.mark ≡ true → entries_of n l.waiting ≡ true → proper n l ≡ true
unfolding proper
make-proper n l m e = rw (m, e)

pub none-proper : (n : ℕ) (m : Option ℕ) → is_mark m ≡ true → proper n (record { mark = m; waiting = [] }) ≡ true
unfolding entries_of
none-proper n m is = make-proper n (record { mark = m; waiting = [] }) is refl

-- where the count is at most n, and there is room for them, as many wait
pub count-few : (n : ℕ) (s : List ℕ) → queue_size n ≤ length s → count_of s ≤ n → count_of s ≡ length (queue_of s).waiting
count-few n s h k = omega (arith, waiting-length s)

pub record IsQueue (n : ℕ) (s : List ℕ) : Type 0 where
  pub roomy-is : roomy n s ≡ true
  pub size_is : queue_size n ≤ length s
  pub format-is : format_of s ≡ format_number
  pub counted_is : count_of s ≡ length (queue_of s).waiting
  pub short-is : length (queue_of s).waiting ≤ n
  pub mark-is : is_mark (mark_of s) ≡ true
  pub entries-is : entries_of n (queue_of s).waiting ≡ true
  pub proper-is : proper n (queue_of s) ≡ true

pub queue-known : (n : ℕ) (s : List ℕ) → is_queue n s ≡ true → IsQueue n s
unfolding is_queue is_head queue_of
queue-known n s e =
    let r = roomy n s in
    let c = leb (count_of s) n in
    let three = (and-eq-true_iff (r && is_head s && c) (entries_of n (queue_of s).waiting)).0 e in
    let two = (and-eq-true_iff (r && is_head s) c).0 three.0 in
    let one = (and-eq-true_iff r (is_head s)).0 two.0 in
    let head = (and-eq-true_iff (eqb (format_of s) format_number) (is_mark (mark_of s))).0 one.1 in
    let size = roomy-size n s one.0 in
    let few = leb-true (count_of s) n two.1 in
    record {
      roomy-is = one.0;
      size_is = size;
      format-is = eqb-true (format_of s) format_number head.0;
      counted_is = count-few n s size few;
      short-is = omega (arith, count-few n s size few);
      mark-is = head.1;
      entries-is = three.1;
      proper-is = make-proper n (queue_of s) head.1 three.1;
    }

pub is-queue : (n : ℕ) (s : List ℕ) → is_queue n s ≡ true → (is_mark (mark_of s) ≡ true) × (entries_of n (queue_of s).waiting ≡ true)
is-queue n s e = let i = queue-known n s e in (i.mark-is, i.entries-is)

-- a buffer that is too small holds none
pub small-queue : (n : ℕ) (s : List ℕ) → roomy n s ≡ false → is_queue n s ≡ false
unfolding is_queue
small-queue n s r = rw r

-- ---- read back

pub mark-small : (m : Option ℕ) → is_mark m ≡ true → mark_number m < limit * limit
mark-small None h = omega arith
mark-small (Some x) h = omega (arith, leb-true x last_minute h)

mark-back : (m : Option ℕ) → mark_from (mark_number m) ≡ m
mark-back None = refl
mark-back (Some x) = rw (add-one x)

number-from : (n : ℕ) → mark_number (mark_from n) ≡ n
number-from zero = refl
number-from (suc n) = omega arith

-- a number that isn't 0, as code reads it
pub mark-read : (n : ℕ) → (n ≡ 0 → ⊥) → Some (n - 1) ≡ mark_from n
mark-read zero h = absurd (h refl)
mark-read (suc n) h = let e : suc n - 1 ≡ n = omega arith in rw e

-- the two halves of a number of 32 bits
halves : (n : ℕ) → n % limit + limit * (n / limit) ≡ n
halves n = omega arith

low_half : (a b : ℕ) → a < limit → (a + limit * b) % limit ≡ a
low_half a b h = omega arith

high_half : (a b : ℕ) → a < limit → (a + limit * b) / limit ≡ b
high_half a b h = omega arith

entries-small : (n : ℕ) (l : List ℕ) → n < limit → entries_of n l ≡ true → Numbers l
entries-small n [] h e i = omega arith
entries-small n (x ∷ l) h e zero = omega (arith, (entries-cons n x l e).0)
entries-small n (x ∷ l) h e (suc i) = entries-small n l h (entries-cons n x l e).2 i

module _ (n : ℕ) (l : Queue) (s : List ℕ) (h : n < limit) (e : proper n l ≡ true) where
  layout-small : Numbers (layout l)
  unfolding layout
  layout-small zero = omega arith
  layout-small (suc zero) = omega arith
  layout-small (suc (suc zero)) = omega arith
  layout-small (suc (suc (suc zero))) = omega (arith, mark-small l.mark (is-proper n l e).0)
  layout-small (suc (suc (suc (suc zero)))) = omega (arith, entries-length n l.waiting (is-proper n l e).1)
  layout-small (suc (suc (suc (suc (suc i))))) = entries-small n l.waiting h (is-proper n l e).1 i

  numbers-laid : numbers (stored l s) ≡ layout l ++ numbers (drop (length (image l)) s)
  unfolding stored front.over_front image
  numbers-laid = numbers-bytes (layout l) (drop (length (bytes (layout l))) s) layout-small

  mark-laid : mark_of (stored l s) ≡ l.mark
  unfolding mark_of number32 layout
  mark-laid = rw (numbers-laid, halves (mark_number l.mark)) (mark-back l.mark)

  pub queue_of-laid : queue_of (stored l s) ≡ l
  unfolding queue_of count_of layout
  queue_of-laid = rw (mark-laid, numbers-laid, take-append_seam l.waiting (numbers (drop (length (image l)) s)))

  format-laid : format_of (stored l s) ≡ format_number
  unfolding format_of number32 layout
  format-laid = rw numbers-laid

  count-laid : count_of (stored l s) ≡ length l.waiting
  unfolding count_of layout
  count-laid = rw numbers-laid

  pub is_queue-laid : roomy n s ≡ true → is_queue n (stored l s) ≡ true
  unfolding is_queue is_head roomy
  is_queue-laid r =
      let p = is-proper n l e in
      let few = entries-length n l.waiting p.1 in
      let long = length-laid l s (omega (arith, roomy-size n s r)) in
      rw (long, r, format-laid, mark-laid, p.0, count-laid, le-leb (length l.waiting) n few, queue_of-laid, p.1)

-- of a buffer after a queue was written to it
module _ (n : ℕ) (l : Queue) (s : List ℕ) (h : n < limit) (r : roomy n s ≡ true) (good : proper n l ≡ true) {x : List ℕ} (e : x ≡ stored l s) where
  pub written_is : is_queue n x ≡ true
  written_is = rw e (is_queue-laid n l s h good r)

  pub written : queue_of x ≡ l
  written = rw e (queue_of-laid n l s h good)

  pub written_over : (k : Queue) → length l.waiting ≤ length k.waiting → stored k x ≡ stored k s
  written_over k m = rw e (laid-laid k l s m)

-- a queue's numbers are the first ones of the buffer
own-numbers : (ns : List ℕ) → Numbers ns → 5 ≤ length ns → number32 ns 0 ≡ format_number → (w : List ℕ) → w ≡ take (get_or ns 4 0) (drop 5 ns) → get_or ns 4 0 ≡ length w
    → layout (record { mark = mark_from (number32 ns 2); waiting = w }) ≡ take (5 + length w) ns
unfolding layout number32
own-numbers [] f long format w is count = absurd (omega arith)
own-numbers (a ∷ []) f long format w is count = absurd (omega arith)
own-numbers (a ∷ b ∷ []) f long format w is count = absurd (omega arith)
own-numbers (a ∷ b ∷ c ∷ []) f long format w is count = absurd (omega arith)
own-numbers (a ∷ b ∷ c ∷ d ∷ []) f long format w is count = absurd (omega arith)
own-numbers (a ∷ b ∷ c ∷ d ∷ k ∷ ns) f long format w is count =
    let five : 5 + length w ≡ suc (suc (suc (suc (suc (length w))))) = omega arith in
    let low : a ≡ format_number % limit = omega (arith, f 0) in
    let high : b ≡ format_number / limit = omega (arith, f 0) in
    rw (
      five,
      number-from (c + limit * d),
      low_half c d (f 2),
      high_half c d (f 2),
      low,
      high,
      ← count,
      is,
    )

own-layout : (n : ℕ) (s : List ℕ) → Bytes s → IsQueue n s → layout (queue_of s) ≡ take (5 + length (queue_of s).waiting) (numbers s)
unfolding queue_of mark_of format_of count_of
own-layout n s f i =
    own-numbers (numbers s) (numbers-small s f) (omega (arith, i.size_is, length-numbers s)) i.format-is (queue_of s).waiting refl i.counted_is

-- a queue written where it is changes nothing
pub laid-queue : (n : ℕ) (s : List ℕ) → Bytes s → is_queue n s ≡ true → stored (queue_of s) s ≡ s
unfolding stored front.over_front image
laid-queue n s f e =
    let i = queue-known n s e in
    let k = length (queue_of s).waiting in
    let it : bytes (layout (queue_of s)) ≡ take (2 * (5 + k)) s = ap bytes (own-layout n s f i) ∙ bytes-numbers s f (5 + k) (omega (arith, i.size_is, i.short-is)) in
    let size : length (bytes (layout (queue_of s))) ≡ 2 * (5 + k) = omega (arith, length-bytes (layout (queue_of s)), length-layout (queue_of s)) in
    rw (size, it) (take-append-drop (2 * (5 + k)) s)
