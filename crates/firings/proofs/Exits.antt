-- The ways out of the calls for a list.
-- Assumes nothing.
use mathlib.Core.Path.{◌≡◌, refl, sym}
use mathlib.Core.Bool.{true, false, true≢false}
use mathlib.Core.List.{List}
use Prim.Native.Nat.{ℕ, ◌+◌, ◌≤◌, ◌<◌}
use borrow.Author.Tests.{le-leb, lt-leb}
use Rattle.std.specs.Prelude.{Ok, Err, Result}
use Rattle.refusal.specs.declared.Refusal.{Refusal}
use Rattle.refusal.specs.declared.Refusal.TheVariants.{NotOnCalendar, AtBootOnly}
use Rattle.calendar.specs.Dates.{last_minute}
use Rattle.line.specs.declared.time.When.{When}
use Rattle.line.specs.declared.time.When.TheVariants.{Reboot, Timed}
use Rattle.crontab.specs.declared.entry.Entry.{Entry}
use Rattle.crontab.specs.declared.table.Table.{Table}
use Rattle.crontab.specs.declared.table.TableFault.{TableFault}
use Rattle.line.specs.declared.Rules.{Rules}
use Rattle.crontab.specs.Tables.{table_of, entry_in, count_in, refusal_in, table_entries}
use Rattle.crontab.proofs.Theorems.{table-sound}
use Rattle.crontab.specs.Firings.{by_when, is_boot}
use Rattle.crontab.proofs.Tables.{good-is}
use Rattle.firings.specs.Lists.{firings_of, fires_in, merged_up_to, merged_of}
use Rattle.firings.specs.Calls.{EntryStep, refused_entry, listed_entry, firings_found, firings_answer, firings_in, refused_merged, listed_merged, merged_in}
use Rattle.firings.specs.Keys.{Good}

-- ---- of an entry

module _ (t : Result Table TableFault) (i a b : ℕ) (run : List ℕ) where
  pub in-found : {e : Entry} {step : EntryStep} → entry_in t i ≡ Ok e → firings_found e a b run ≡ step → firings_in t i a b run ≡ step
  unfolding firings_in firings_answer
  in-found f s = rw f s

  pub in-refused : {refusal : Refusal} → entry_in t i ≡ Err refusal → firings_in t i a b run ≡ refused_entry refusal run
  unfolding firings_in firings_answer
  in-refused f = rw f

module _ (e : Entry) (a b : ℕ) (run : List ℕ) where
  pub first_off : last_minute < a → firings_found e a b run ≡ refused_entry NotOnCalendar run
  unfolding firings_found
  first_off h = rw (lt-leb a last_minute h)

  pub last_off : a ≤ last_minute → last_minute < b → firings_found e a b run ≡ refused_entry NotOnCalendar run
  unfolding firings_found
  last_off h k = rw (le-leb a last_minute h, lt-leb b last_minute k)

  module _ (h : a ≤ last_minute) (k : b ≤ last_minute) where
    pub at-boot : is_boot e ≡ true → firings_found e a b run ≡ refused_entry AtBootOnly run
    unfolding firings_found is_boot
    at-boot t = rw (le-leb a last_minute h, le-leb b last_minute k) (go e.when t)
      where
        go : (when : When) → by_when when true (λ s. false) ≡ true → by_when when (refused_entry AtBootOnly run) (λ s. listed_entry (firings_of e a b) run) ≡ refused_entry AtBootOnly run
        go Reboot z = refl
        go (Timed s) z = absurd (true≢false (sym z))

    pub by-time : is_boot e ≡ false → firings_found e a b run ≡ listed_entry (firings_of e a b) run
    unfolding firings_found is_boot
    by-time t = rw (le-leb a last_minute h, le-leb b last_minute k) (go e.when t)
      where
        go : (when : When) → by_when when true (λ s. false) ≡ false
            → by_when when (refused_entry AtBootOnly run) (λ s. listed_entry (firings_of e a b) run) ≡ listed_entry (firings_of e a b) run
        go Reboot z = absurd (true≢false z)
        go (Timed s) z = refl

-- ---- of a table

module _ (t : Result Table TableFault) (a b : ℕ) (minutes entries : List ℕ) where
  pub merged-bad : {f : TableFault} → t ≡ Err f → merged_in t a b minutes entries ≡ refused_merged f.refusal minutes entries
  unfolding merged_in
  merged-bad is = rw is

  module _ (good : refusal_in t ≡ 0) where
    pub merged-first-off : last_minute < a → merged_in t a b minutes entries ≡ refused_merged NotOnCalendar minutes entries
    unfolding merged_in
    merged-first-off h = rw ((good-is t good).1, lt-leb a last_minute h)

    pub merged-last-off : a ≤ last_minute → last_minute < b → merged_in t a b minutes entries ≡ refused_merged NotOnCalendar minutes entries
    unfolding merged_in
    merged-last-off h k = rw ((good-is t good).1, le-leb a last_minute h, lt-leb b last_minute k)

    pub merged-listed : a ≤ last_minute → b ≤ last_minute
        → merged_in t a b minutes entries ≡ listed_merged (merged_up_to (fires_in (table_entries t)) (count_in t) b (a + 1)) minutes entries
    unfolding merged_in merged_of
    merged-listed h k = rw ((good-is t good).1, le-leb a last_minute h, le-leb b last_minute k)

pub good-entries : (rules : Rules) (s : List ℕ) → Good (table_entries (table_of rules s)) (count_in (table_of rules s))
good-entries rules s =
    let t = table-sound rules s in
    record { few = t.few; full = t.full; zone = λ i h. (t.each i h).zone }
