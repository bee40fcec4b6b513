-- Two runs that are filled firing by firing, by keys: what holds on the way, and at the end.
-- Assumes nothing.
use Rattle.std.specs.Prelude.{Ok}
use mathlib.Core.Path.{◌≡◌, ap}
use mathlib.Core.List.{List, [], ◌∷◌, map}
use Prim.Native.Nat.{ℕ, ◌+◌, ◌/◌, ◌%◌, ◌<◌}
use native.Mathlib.Omega.{arith}
use lib.ListN.{length, set, length-map}
use Rattle.firings.specs.declared.Filled.{Filled}
use Rattle.firings.specs.declared.Filled.TheVariants.{All, More}
use Rattle.firings.specs.Lists.{Firing}
use Rattle.firings.specs.Calls.{room_in, minutes_of, entries_of, listed_merged}
use Rattle.firings.specs.Keys.{firing_of}
use Rattle.firings.proofs.Filling.{Filling, filling-start, filling-next, all_told, all_laid, more-told, more-laid}

abbrev minutes_in : List ℕ → List ℕ
minutes_in keys = minutes_of (map firing_of keys)

abbrev entries_in : List ℕ → List ℕ
entries_in keys = entries_of (map firing_of keys)

-- of the keys `all` n are written to both runs; `rest` are those ahead
pub record Merging (room : ℕ) (all minutes₀ entries₀ : List ℕ) (n : ℕ) (minutes entries rest : List ℕ) : Type 0 where
  pub first : Filling room (minutes_in all) minutes₀ n minutes (minutes_in rest)
  pub second : Filling room (entries_in all) entries₀ n entries (entries_in rest)

-- what is answered, and what the runs hold
abbrev pub Told : List Firing → List ℕ → List ℕ → Filled → List ℕ → List ℕ → Type 0
Told list minutes₀ entries₀ r minutes entries =
    (Ok r ≡ (listed_merged list minutes₀ entries₀).answer)
    × ((minutes ≡ (listed_merged list minutes₀ entries₀).minutes) × (entries ≡ (listed_merged list minutes₀ entries₀).entries))

same_size : (keys : List ℕ) → length (minutes_in keys) ≡ length (map firing_of keys)
unfolding minutes_of
same_size keys = length-map (map firing_of keys) (λ f. f.minute)

pub merging_start : (room : ℕ) (all minutes entries : List ℕ) → room ≡ room_in minutes entries → Merging room all minutes entries 0 minutes entries all
unfolding room_in
merging_start room all minutes entries e =
    record { first = filling-start room _ minutes (omega arith); second = filling-start room _ entries (omega arith) }

module _ {room : ℕ} {all minutes₀ entries₀ : List ℕ} {n : ℕ} {minutes entries : List ℕ} where
  pub merging-ahead : {rest more : List ℕ} → Merging room all minutes₀ entries₀ n minutes entries rest → rest ≡ more → Merging room all minutes₀ entries₀ n minutes entries more
  merging-ahead m e = rw e at m

  pub merging-next : {key : ℕ} {rest : List ℕ} → Merging room all minutes₀ entries₀ n minutes entries (key ∷ rest) → n < room
      → Merging room all minutes₀ entries₀ (n + 1) (set minutes n (key / 512)) (set entries n (key % 512)) rest
  unfolding minutes_of entries_of firing_of
  merging-next m h = record { first = filling-next m.first h; second = filling-next m.second h }

  module _ {list : List Firing} where
    pub merging-all : Merging room all minutes₀ entries₀ n minutes entries [] → map firing_of all ≡ list → room ≡ room_in minutes₀ entries₀
        → Told list minutes₀ entries₀ (All n) minutes entries
    unfolding listed_merged minutes_of entries_of
    merging-all m is fits = (
      rw (← is, ← same_size all, ← fits) (ap Ok (all_told m.first)),
      (rw (← is, ← fits) (all_laid m.first), rw (← is, ← fits) (all_laid m.second)),
    )

    pub merging-more : {key : ℕ} {rest : List ℕ} → Merging room all minutes₀ entries₀ n minutes entries (key ∷ rest) → n ≡ room → map firing_of all ≡ list
        → room ≡ room_in minutes₀ entries₀ → Told list minutes₀ entries₀ (More n) minutes entries
    unfolding listed_merged minutes_of entries_of firing_of
    merging-more m e is fits = (
      rw (← is, ← same_size all, ← fits) (ap Ok (more-told m.first e)),
      (rw (← is, ← fits) (more-laid m.first e), rw (← is, ← fits) (more-laid m.second e)),
    )
