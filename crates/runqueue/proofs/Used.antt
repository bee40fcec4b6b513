-- Theorems by table bytes that nothing else uses, used: a fresh queue of a system table with 512 entries in the second dialect, and the demand's bound that is met
-- exactly. An added hypothesis, or a part less of a conclusion, breaks one of these.
-- Assumes nothing.
use mathlib.Core.Path.{◌≡◌}
use mathlib.Core.Logic.{◌↔◌}
use mathlib.Core.Bool.{true}
use mathlib.Core.List.{List}
use Prim.Native.Nat.{ℕ, ◌+◌, ◌-◌}
use lib.ListN.{take}
use Rattle.field.specs.declared.Dialect.TheVariants.{Rising, Wrapping}
use Rattle.line.specs.declared.Rules.{Rules}
use Rattle.line.specs.declared.Kind.TheVariants.{User, System}
use Rattle.crontab.specs.Tables.{table_of, count_in, refusal_in}
use Rattle.fifo.specs.Layout.{roomy}
use Rattle.fifo.specs.Fairness.{up_to, Names}
use Rattle.fifo.specs.Buffer.{calls_on, buffer_after_all, started}
use Rattle.fifo.specs.Steady.{steady}
use Rattle.runqueue.specs.Calls.{init_table}
use Rattle.runqueue.specs.Demand.{jobs_in, bound_from, leap_sundays}
use Rattle.runqueue.specs.Chain.{Chain, joins_after}
use Rattle.runqueue.proofs.Theorems.{fresh_unmarked, chain-is-ticks, limit-reached}

abbrev system : Rules
system = record { kind = System; dialect = Wrapping }

-- I7 from a fresh queue on: the chain of the last entry is what announcements one by one find there
pub fresh-chain : (table room chain : List ℕ)
    → let t = table_of system table in
    refusal_in t ≡ 0 → count_in t ≡ 512 → roomy 512 room ≡ true
    → Chain t 511 0 chain ↔ (chain ≡ joins_after t 511 0 (init_table t room).room)
fresh-chain table room chain good all enough =
    let t = table_of system table in
    let (line, none) = fresh_unmarked system table room good (rw all enough) in
    chain-is-ticks system table 511 0 (init_table t room).room chain line none

-- the last request of the bound names the entry, at 2128-02-29 00:00, and no request before it does
pub limit-exact : (buffer : List ℕ)
    → let jobs = jobs_in (record { kind = User; dialect = Rising }) leap_sundays in
    let t : ℕ = 62147340 in
    let n = bound_from (record { kind = User; dialect = Rising }) leap_sundays 0 t in
    let calls = calls_on jobs (buffer_after_all jobs (started jobs 12 buffer) (steady 12 62147520 1)) (steady 12 (t + 1) n) in
    roomy 1 (take 12 buffer) ≡ true → (t + n ≡ 83184480) × Names jobs 0 (up_to n calls) × (Names jobs 0 (up_to (n - 1) calls) → ⊥)
limit-exact buffer enough = let (can, on, at, named, before) = limit-reached 12 buffer enough in (at, named, before)
