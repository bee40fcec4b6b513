-- The chain of next firings is the list of the minutes at which `due` says yes: a next firing that is told is the first of them, and where
-- none is told there is none.
-- Assumes nothing.
use mathlib.Core.Path.{◌≡◌, refl, sym, ap, ◌∙◌}
use mathlib.Core.Bool.{Bool, true, false, true≢false}
use mathlib.Core.List.{List, [], ◌∷◌}
use Prim.Native.Nat.{ℕ, zero, suc, ◌+◌, ◌-◌, ◌≤◌, ◌<◌}
use native.Mathlib.Nat.{lt_of_not-le}
use native.Mathlib.Decide.{dec_le}
use native.Mathlib.Omega.{arith}
use borrow.Author.Tests.{le-leb, lt-leb}
use Rattle.std.specs.Prelude.{Result, Ok, Err}
use Rattle.refusal.specs.declared.Refusal.{Refusal}
use Rattle.octets.specs.Passing.{passing_up_to}
use Rattle.octets.proofs.Search.{some-passes, passes-some}
use Rattle.octets.proofs.Passing.{up-end, up-here, up-skip}
use Rattle.calendar.specs.Dates.{last_minute}
use Rattle.line.specs.declared.Rules.{Rules}
use Rattle.crontab.specs.declared.entry.Entry.{Entry}
use Rattle.crontab.specs.Tables.{table_of, entry_in}
use Rattle.crontab.specs.Firings.{fires_at, due_of, next_of, due_answer, due_in, next_answer, next_in}
use Rattle.schedule.specs.Next.{by_then}
use Rattle.crontab.proofs.Firings.{next-comes}
use Rattle.crontab.proofs.Theorems.{next-told}
use Rattle.runqueue.specs.Chain.{Chain, is_yes, due_after, ChainIsDue}

-- ---- an entry

module _ (x : Entry) where
  pub yes-fires : (k : ℕ) → k ≤ last_minute → is_yes (due_of x k) ≡ fires_at x k
  unfolding due_of
  yes-fires k h = rw (le-leb k last_minute h) (go (fires_at x k))
    where
      go : (b : Bool) → is_yes (Ok b) ≡ b
      go true = refl
      go false = refl

  module _ (m : ℕ) where
    -- where no next firing comes by a minute, nothing is due up to it
    none-by : (j k : ℕ) → m < k → k ≤ j → j ≤ last_minute → by_then (next_of x m) j ≡ false → is_yes (due_of x k) ≡ false
    none-by j k h i on e = yes-fires k (omega arith) ∙ go (fires_at x k) refl
      where
        go : (b : Bool) → fires_at x k ≡ b → b ≡ false
        go true t = absurd (true≢false (sym (some-passes (fires_at x) m j k h i t) ∙ sym (next-comes x m j on) ∙ e))
        go false t = refl

    -- and where one does, something is
    some-by : (j : ℕ) → j ≤ last_minute → by_then (next_of x m) j ≡ true → (k : ℕ) × (m < k) × (k ≤ j) × (is_yes (due_of x k) ≡ true)
    some-by j on e =
        let (k, u, v, t) = passes-some (fires_at x) m j (sym (next-comes x m j on) ∙ e) in
        (k, u, v, yes-fires k (omega arith) ∙ t)

-- ---- an entry of a table

-- n is the first number after m, up to the calendar's last minute, that passes
record First (p : ℕ → Bool) (m n : ℕ) : Type 0 where
  later : m < n
  on : n ≤ last_minute
  is : p n ≡ true
  none : (k : ℕ) → m < k → k < n → p k ≡ false

module _ (m : ℕ) where
  next-first : (a : Result Entry Refusal) (n : ℕ) → n ≤ last_minute → next_answer a m ≡ Ok n → First (λ k. is_yes (due_answer a k)) m n
  unfolding next_answer due_answer
  next-first (Err refusal) n on e = absurd (let z : ◌≡◌ {A = ℕ} 0 1 = cc in omega arith)
  next-first (Ok x) n on e =
      let (k, u, v, t) = some-by x m n on (rw e (le-leb n n (omega arith))) in
      let before : (j : ℕ) → m < j → j < n → is_yes (due_of x j) ≡ false = λ j h i. none-by x m j j h (omega arith) (omega arith) (rw e (lt-leb n j i)) in
      here k u v t before
    where
      here : (k : ℕ) → m < k → k ≤ n → is_yes (due_of x k) ≡ true → ((j : ℕ) → m < j → j < n → is_yes (due_of x j) ≡ false)
          → First (λ k. is_yes (due_of x k)) m n
      here k u v t before =
          let same : k ≡ n = elim (dec_le n k) [ yes h ↦ omega arith | no h ↦ absurd (true≢false (sym t ∙ before k u (lt_of_not-le h))) ] in
          record { later = omega arith; on = on; is = rw same at t; none = before }

  next-none : (a : Result Entry Refusal) (refusal : Refusal) → next_answer a m ≡ Err refusal → (k : ℕ) → m < k → k ≤ last_minute → is_yes (due_answer a k) ≡ false
  unfolding next_answer due_answer
  next-none (Err other) refusal e k h on = refl
  next-none (Ok x) refusal e k h on = none-by x m k k h (omega arith) on (rw e)

-- ---- the list, link by link

module _ (rules : Rules) (table : List ℕ) (e : ℕ) where
  abbrev is_due : ℕ → Bool
  is_due k = is_yes (due_in (table_of rules table) e k)

  pub link_at : (m n : ℕ) → next_in (table_of rules table) e m ≡ Ok n
      → (m < n) × (n ≤ last_minute) × (due_after (table_of rules table) e m ≡ n ∷ due_after (table_of rules table) e n)
  unfolding next_in due_in due_after
  link_at m n p =
      let on : n ≤ last_minute = rw p at (next-told rules table e m) in
      let f = next-first m (entry_in (table_of rules table) e) n on p in (
        f.later,
        on,
        up-skip is_due last_minute (m + 1) n (omega (arith, f.later)) (λ k u v. f.none k (omega arith) v) ∙ up-here is_due last_minute n on f.is,
      )

  link-none : (m : ℕ) (refusal : Refusal) → next_in (table_of rules table) e m ≡ Err refusal → due_after (table_of rules table) e m ≡ []
  unfolding next_in due_in due_after
  link-none m refusal p = elim (dec_le m last_minute) [ yes h ↦ within h | no h ↦ up-end is_due last_minute (m + 1) (omega (arith, lt_of_not-le h)) ]
    where
      within : m ≤ last_minute → passing_up_to is_due last_minute (m + 1) ≡ []
      within h =
          up-skip is_due last_minute (m + 1) (last_minute + 1) (omega arith)
          (λ k u v. next-none m (entry_in (table_of rules table) e) refusal p k (omega arith) (omega arith))
          ∙ up-end is_due last_minute (last_minute + 1) (omega arith)

  -- a chain is the list
  chain-due : (m : ℕ) (chain : List ℕ) → Chain (table_of rules table) e m chain → chain ≡ due_after (table_of rules table) e m
  chain-due m [] c = sym (link-none m c.0 c.1)
  chain-due m (n ∷ chain) c = ap (λ (l : List ℕ). n ∷ l) (chain-due n chain c.1) ∙ sym (link_at m n c.0).2

  -- and the list is one: each answer is later, so the questions end
  from_next : (m : ℕ) → ((n : ℕ) → m < n → n ≤ last_minute → Chain (table_of rules table) e n (due_after (table_of rules table) e n))
      → (a : Result ℕ Refusal) → next_in (table_of rules table) e m ≡ a → Chain (table_of rules table) e m (due_after (table_of rules table) e m)
  from_next m later (Err refusal) p = rw (link-none m refusal p) (refusal, p)
  from_next m later (Ok n) p = let (u, v, q) = link_at m n p in rw q (p, later n u v)

  due-chain : (left m : ℕ) → last_minute - m ≤ left → Chain (table_of rules table) e m (due_after (table_of rules table) e m)
  due-chain zero m h = from_next m (λ n u v. absurd (omega arith)) (next_in (table_of rules table) e m) refl
  due-chain (suc left) m h = from_next m (λ n u v. due-chain left n (omega arith)) (next_in (table_of rules table) e m) refl

pub chain-is-due : ChainIsDue
chain-is-due rules table e m chain = (chain-due rules table e m chain, (λ q. rw q (due-chain rules table e (last_minute - m) m (omega arith))))
