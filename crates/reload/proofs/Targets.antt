-- Laws of what entries become: the one of the same rank among those that mean the same, or the last of them.
-- Assumes nothing.
use mathlib.Core.Path.{◌≡◌, refl, sym, ◌∙◌}
use mathlib.Core.Logic.{◌↔◌}
use mathlib.Core.Bool.{Bool, true, false, cond}
use mathlib.Core.List.{List}
use Prim.Native.Nat.{ℕ, zero, suc, ◌+◌, ◌-◌, ◌≤◌, ◌<◌}
use native.Mathlib.Nat.{lt_of_not-le}
use native.Mathlib.Decide.{dec_le}
use native.Mathlib.Omega.{arith}
use lib.Dec.{ltb}
use borrow.Author.Tests.{lt-ltb, le-ltb}
use Rattle.std.specs.Prelude.{Result, Ok, Err}
use Rattle.refusal.specs.declared.Refusal.{Refusal}
use Rattle.octets.specs.BitSets.{bit_set_of}
use Rattle.octets.specs.Search.{least_of, from}
use Rattle.octets.specs.Passing.{count_below, is_ranked}
use Rattle.octets.specs.BitSets.{has_member}
use Rattle.octets.proofs.Search.{from-same, from_some, from-least, least-from}
use Rattle.octets.proofs.Passing.{below-same, below_next, below-pass, ranked-here, ranked-other, ranked-out, ranked-is}
use Rattle.octets.proofs.BitSets.{bit-set-member}
use Rattle.schedule.specs.Local.{OffsetInRange}
use Rattle.line.specs.declared.Rules.{Rules}
use Rattle.crontab.specs.declared.entry.Entry.{Entry}
use Rattle.crontab.specs.declared.select.Selection.{Selection}
use Rattle.crontab.specs.declared.table.Table.{Table}
use Rattle.crontab.specs.declared.table.TableFault.{TableFault}
use Rattle.crontab.specs.Tables.{table_of, entry_in, count_in, table_entries}
use Rattle.crontab.proofs.Selections.{selected-good}
use Rattle.crontab.specs.Selections.{bit_set_words, choice, selected_by}
use Rattle.crontab.proofs.Theorems.{table-sound}
use Rattle.runqueue.specs.Jobs.{job_at}
use Rattle.reload.specs.EntryMeanings.{duty_of, means_as}
use Rattle.reload.specs.Targets.{duty_in, same_in, rank_in, ranked_or_last, target_in}
use Rattle.reload.proofs.EntryMeanings.{clock-zone, same-meaning-eq, same-meaning-same}

-- ---- counting

below_more : (p : ℕ → Bool) (n k : ℕ) → count_below p n ≤ count_below p (n + k)
below_more p n zero = let e : n + 0 ≡ n = omega arith in rw e (omega arith)
below_more p n (suc k) = go (p (n + k)) refl (below_more p n k)
  where
    go : (b : Bool) → p (n + k) ≡ b → count_below p n ≤ count_below p (n + k) → count_below p n ≤ count_below p (n + suc k)
    go true t h = let e : n + suc k ≡ n + k + 1 = omega arith in rw e (omega (arith, h, below_next p (n + k) t))
    go false t h = let e : n + suc k ≡ n + k + 1 = omega arith in rw e (omega (arith, h, below-pass p (n + k) t))

-- one that passes counts for all behind it
below_less : (p : ℕ → Bool) (n k : ℕ) → n < k → p n ≡ true → count_below p n < count_below p k
below_less p n k h t =
    let e : n + 1 + (k - (n + 1)) ≡ k = omega arith in
    let more : count_below p (n + 1) ≤ count_below p k = rw e at (below_more p (n + 1) (k - (n + 1))) in
    omega (arith, more, below_next p n t)

-- a rank that is less than the total is some number's
ranked-some : (p : ℕ → Bool) (n r : ℕ) → r < count_below p n → (k : ℕ) × (k < n) × (is_ranked p r k ≡ true)
unfolding count_below
ranked-some p zero r h = absurd (omega arith)
ranked-some p (suc n) r h = go (p n) refl h (ranked-some p n r)
  where
    before : ((k : ℕ) × (k < n) × (is_ranked p r k ≡ true)) → (k : ℕ) × (k < suc n) × (is_ranked p r k ≡ true)
    before (k, u, t) = (k, omega arith, t)

    go : (b : Bool) → p n ≡ b → r < cond b (suc (count_below p n)) (count_below p n) → (r < count_below p n → (k : ℕ) × (k < n) × (is_ranked p r k ≡ true))
        → (k : ℕ) × (k < suc n) × (is_ranked p r k ≡ true)
    go false e h others = before (others h)
    go true e h others =
        elim (dec_le (count_below p n) r) [ yes q ↦ (n, omega arith, ranked-here p r n e (omega arith)) | no q ↦ before (others (lt_of_not-le q)) ]

-- ---- the one of a rank, or the last

module _ (p : ℕ → Bool) (n rank : ℕ) where
  abbrev total : ℕ
  total = count_below p n

  -- a search for a rank
  found : (r : ℕ) → r < total → from (is_ranked p r) n 0 < n
  found r h = let (k, u, t) = ranked-some p n r h in from_some (is_ranked p r) n 0 k (omega arith) u t

  found-is : (r : ℕ) → from (is_ranked p r) n 0 < n → (p (from (is_ranked p r) n 0) ≡ true) × (count_below p (from (is_ranked p r) n 0) ≡ r)
  found-is r h = ranked-is p r (from (is_ranked p r) n 0) ((from-least (is_ranked p r) n 0 (omega arith)).passes h)

  at-rank : rank < total → ranked_or_last p n rank ≡ from (is_ranked p rank) n 0
  unfolding ranked_or_last
  at-rank h = rw (lt-ltb rank total h)

  at_last : total ≤ rank → ranked_or_last p n rank ≡ from (is_ranked p (total - 1)) n 0
  unfolding ranked_or_last
  at_last h = rw (le-ltb rank total h)

  -- where any number passes, there is one
  pub ranked-there : (j : ℕ) → j < n → p j ≡ true → ranked_or_last p n rank < n
  ranked-there j h t = elim (dec_le total rank) [ yes q ↦ rw (at_last q) (found (total - 1) (omega (arith, some))) | no q ↦ rw (at-rank (lt_of_not-le q)) (found rank (lt_of_not-le q)) ]
    where
      some : count_below p j < total
      some = below_less p j n h t

  -- and it passes
  pub ranked-passes : ranked_or_last p n rank < n → p (ranked_or_last p n rank) ≡ true
  unfolding ranked_or_last
  ranked-passes h = (found-is (cond (ltb rank total) rank (total - 1)) h).0

  -- it has the rank, where there are enough
  pub ranked-rank : rank < total → count_below p (ranked_or_last p n rank) ≡ rank
  ranked-rank h = rw (at-rank h) (found-is rank (found rank h)).1

  -- and else none after it passes
  pub ranked-last : total ≤ rank → (k : ℕ) → ranked_or_last p n rank < k → k < n → p k ≡ false
  ranked-last h k u v = go (p k) refl
    where
      last : ℕ
      last = ranked_or_last p n rank

      go : (b : Bool) → p k ≡ b → p k ≡ false
      go false e = e
      go true e =
          let is : last ≡ from (is_ranked p (total - 1)) n 0 = at_last h in
          let there : from (is_ranked p (total - 1)) n 0 < n = omega (arith, is) in
          let f = found-is (total - 1) there in
          let more : count_below p (from (is_ranked p (total - 1)) n 0) < count_below p k = below_less p (from (is_ranked p (total - 1)) n 0) k (omega (arith, is)) f.0 in
          absurd (omega (arith, f.1, more, below_less p k n v e))

  -- it is the number itself that has the rank
  pub ranked-itself : (i : ℕ) → i < n → p i ≡ true → count_below p i ≡ rank → ranked_or_last p n rank ≡ i
  ranked-itself i h t e =
      at-rank (omega (arith, e, below_less p i n h t))
      ∙ sym (least-from (omega arith) (record { low = omega arith; high = omega arith; passes = λ _. ranked-here p rank i t e; none = λ k _ v. other k v (p k) refl }))
    where
      other : (k : ℕ) → k < i → (b : Bool) → p k ≡ b → is_ranked p rank k ≡ false
      other k v false f = ranked-out p rank k f
      other k v true f = ranked-other p rank k (λ g. omega (arith, g, e, below_less p k i v f))

  -- ---- as code ends

  module _ {at : ℕ} (is : at ≡ from (is_ranked p rank) n 0) where
    pub ends-ranked : at < n → at ≡ ranked_or_last p n rank
    ends-ranked h =
        let there : from (is_ranked p rank) n 0 < n = omega (arith, is) in
        let f = found-is rank there in
        is ∙ sym (at-rank (omega (arith, f.1, below_less p (from (is_ranked p rank) n 0) n there f.0)))

    module _ (out : n ≤ at) {t : ℕ} (all : t ≡ total) where
      few : total ≤ rank
      few = elim (dec_le total rank) [ yes q ↦ q | no q ↦ absurd (omega (arith, is, out, found rank (lt_of_not-le q))) ]

      pub ends-none : t ≡ 0 → n ≡ ranked_or_last p n rank
      ends-none z = sym (at_last few ∙ elim (dec_le n none) [ yes q ↦ omega (arith, high) | no q ↦ absurd (past (lt_of_not-le q)) ])
        where
          none : ℕ
          none = from (is_ranked p (total - 1)) n 0

          high : none ≤ n
          high = (from-least (is_ranked p (total - 1)) n 0 (omega arith)).high

          past : none < n → ⊥
          past h = omega (arith, z, all, below_less p none n h (found-is (total - 1) h).0)

      pub ends_last : {r : ℕ} → r ≡ from (is_ranked p (t - 1)) n 0 → r ≡ ranked_or_last p n rank
      ends_last e = e ∙ rw all (sym (at_last few))

-- tests that agree have the same one
ranked-same : (p q : ℕ → Bool) (n rank : ℕ) → ((k : ℕ) → k < n → p k ≡ q k) → ranked_or_last p n rank ≡ ranked_or_last q n rank
unfolding ranked_or_last is_ranked
ranked-same p q n rank h =
    rw (below-same p q n h)
    (from-same (is_ranked p r) (is_ranked q r) n 0 (omega arith) (λ k _ u. rw (h k u, below-same p q k (λ i v. h i (omega arith)))))
  where
    r : ℕ
    r = cond (ltb rank (count_below q n)) rank (count_below q n - 1)

-- ---- entries of a table have offsets that may be

duty-zone : (rules : Rules) (s : List ℕ) (i : ℕ) → i < count_in (table_of rules s) → OffsetInRange (duty_in rules s i).offset
unfolding duty_in duty_of job_at
duty-zone rules s i h = clock-zone _ _ ((table-sound rules s).each i h).zone

module _ (rules : Rules) where
  -- two entries pass the test exactly if they ask for the same
  pub same-is : (s : List ℕ) (i : ℕ) (t : List ℕ) (j : ℕ) → i < count_in (table_of rules s) → j < count_in (table_of rules t)
      → (same_in rules s i t j ≡ true) ↔ (duty_in rules s i ≡ duty_in rules t j)
  unfolding same_in
  same-is s i t j h k = (same-meaning-eq (duty_in rules s i) (duty_in rules t j) (duty-zone rules s i h) (duty-zone rules t j k), (λ e. rw e (same-meaning-same (duty_in rules t j))))

  itself : (s : List ℕ) (i : ℕ) → same_in rules s i s i ≡ true
  unfolding same_in
  itself s i = same-meaning-same (duty_in rules s i)

  module _ (old new : List ℕ) (i : ℕ) where
    -- where an entry means the same, there is a target
    pub target-there : (j : ℕ) → j < count_in (table_of rules new) → same_in rules old i new j ≡ true → target_in rules old new i < count_in (table_of rules new)
    unfolding target_in
    target-there j h t = ranked-there (same_in rules old i new) (count_in (table_of rules new)) (rank_in rules old i) j h t

    -- and it means the same
    pub target-same : target_in rules old new i < count_in (table_of rules new) → same_in rules old i new (target_in rules old new i) ≡ true
    unfolding target_in
    target-same h = ranked-passes (same_in rules old i new) (count_in (table_of rules new)) (rank_in rules old i) h

    -- it has the same rank among those, where there are enough
    pub target-rank : rank_in rules old i < count_below (same_in rules old i new) (count_in (table_of rules new))
        → count_below (same_in rules old i new) (target_in rules old new i) ≡ rank_in rules old i
    unfolding target_in
    target-rank h = ranked-rank (same_in rules old i new) (count_in (table_of rules new)) (rank_in rules old i) h

    -- and else it is the last of them
    pub target-last : count_below (same_in rules old i new) (count_in (table_of rules new)) ≤ rank_in rules old i
        → (k : ℕ) → target_in rules old new i < k → k < count_in (table_of rules new) → same_in rules old i new k ≡ false
    unfolding target_in
    target-last h = ranked-last (same_in rules old i new) (count_in (table_of rules new)) (rank_in rules old i) h

    -- ---- as code finds it: by those that mean the same, a bit for each

    module _ (inside : i < count_in (table_of rules old)) where
      -- whether an entry of table s means the same
      abbrev pub is_peer : List ℕ → Entry → Bool
      is_peer s e = means_as rules old (job_at (table_of rules old) i) s e

      abbrev pub peers : List ℕ → List ℕ
      peers s = bit_set_of bit_set_words (choice (is_peer s) (table_entries (table_of rules s))) (count_in (table_of rules s))

      peer-is : (s : List ℕ) (k : ℕ) → k < count_in (table_of rules s) → has_member (peers s) k ≡ same_in rules old i s k
      unfolding choice means_as same_in duty_in job_at
      peer-is s k h =
          bit-set-member bit_set_words (choice (is_peer s) (table_entries (table_of rules s))) (count_in (table_of rules s)) (omega (arith, (table-sound rules s).few)) k
          ∙ rw (lt-ltb k (count_in (table_of rules s)) h)

      pub rank_is : count_below (has_member (peers old)) i ≡ rank_in rules old i
      unfolding rank_in
      rank_is = below-same (has_member (peers old)) (same_in rules old i old) i (λ k u. peer-is old k (omega arith))

      pub target_is : ranked_or_last (has_member (peers new)) (count_in (table_of rules new)) (rank_in rules old i) ≡ target_in rules old new i
      unfolding target_in
      target_is = ranked-same (has_member (peers new)) (same_in rules old i new) (count_in (table_of rules new)) (rank_in rules old i) (λ k h. peer-is new k h)

  -- in the same table an entry becomes itself
  pub target-self : (s : List ℕ) (i : ℕ) → i < count_in (table_of rules s) → target_in rules s s i ≡ i
  unfolding target_in rank_in
  target-self s i h = ranked-itself (same_in rules s i s) (count_in (table_of rules s)) (count_below (same_in rules s i s) i) i h (itself s i) refl

-- an entry of a table is found by its number
pub entry_found : (rules : Rules) (s : List ℕ) (i : ℕ) → i < count_in (table_of rules s) → entry_in (table_of rules s) i ≡ Ok (job_at (table_of rules s) i)
unfolding entry_in job_at
entry_found rules s i h = go (table_of rules s) h
  where
    go : (t : Result Table TableFault) → i < count_in t → entry_in t i ≡ Ok (job_at t i)
    go (Ok x) h = rw (lt-ltb i x.count h)
    go (Err f) h = absurd (omega arith)

-- a refused table has no entries, and so no target
pub target-refused : (rules : Rules) (old new : List ℕ) (i : ℕ) → count_in (table_of rules new) ≡ 0 → 0 ≡ target_in rules old new i
unfolding target_in ranked_or_last from least_of
target-refused rules old new i none = rw none

-- as code ends: the marks of both tables, and the ranks among them
pub target-ends : (rules : Rules) (old new : List ℕ) (i : ℕ) (inside : i < count_in (table_of rules old)) {x : Entry} {here there : Selection} {rank r : ℕ}
    → x ≡ job_at (table_of rules old) i
    → Ok here ≡ selected_by (means_as rules old x old) (table_of rules old) → Ok there ≡ selected_by (means_as rules old x new) (table_of rules new)
    → rank ≡ count_below (has_member here.members) i → r ≡ ranked_or_last (has_member there.members) there.count rank
    → r ≡ target_in rules old new i
target-ends rules old new i inside is h t p q =
    let m = selected-good _ (table_of rules old) h in
    let k = selected-good _ (table_of rules new) t in
    q ∙ rw (p, m.2, k.2, k.1, is) (rw (rank_is rules old new i inside) (target_is rules old new i inside))

pub entry-is : (rules : Rules) (s : List ℕ) (i : ℕ) {a : Result Entry Refusal} {x : Entry} → i < count_in (table_of rules s) → a ≡ entry_in (table_of rules s) i → a ≡ Ok x
    → x ≡ job_at (table_of rules s) i
entry-is rules s i {a} {x} h e f = let q : Ok x ≡ Ok (job_at (table_of rules s) i) = sym f ∙ e ∙ entry_found rules s i h in cc

pub entry-some : (rules : Rules) (s : List ℕ) (i : ℕ) {a : Result Entry Refusal} {refusal : Refusal} → i < count_in (table_of rules s) → a ≡ entry_in (table_of rules s) i
    → a ≡ Err refusal → ⊥
entry-some rules s i {a} {refusal} h e f =
    let q : Err refusal ≡ Ok (job_at (table_of rules s) i) = sym f ∙ e ∙ entry_found rules s i h in
    let z : ◌≡◌ {A = ℕ} 0 1 = cc in omega arith
