-- `eremothyn::entries::place_number` meets its contract, by what the reader promises.
-- Assumes nothing.
use mathlib.Core.Path.{sym, ◌∙◌}
use native.Mathlib.Omega.{arith}
use Rattle.crontab.proofs.Theorems.{entry-sound}
use Rattle.eremothyn.specs.Answer.{answer_of}
use Rattle.eremothyn.specs.Entries.{place_number}
use Rattle.eremothyn.proofs.entries.place_number.Goals as goal

pub place_in-requires : goal.place_in-requires
place_in-requires c = let e = entry-sound _ _ _ (sym c.find_entry.ensures ∙ c.in-Ok.is) in omega (arith, e.some)

pub returns-in-Ok : goal.returns-in-Ok
unfolding place_number
returns-in-Ok c =
    rw (← c.rules_of.ensures, ← c.find_entry.ensures, c.in-Ok.is) c.place_in.ensures

pub returns-in-Err : goal.returns-in-Err
unfolding place_number answer_of
returns-in-Err c = rw (← c.rules_of.ensures, ← c.find_entry.ensures, c.in-Err.is) c.answer.ensures
