-- When two entries have the same meaning, each in a table of its own (L1).
-- Assumes nothing.
use Rattle.std.specs.Prelude.{ℕ, Bool, true, false, not, ◌&&◌, List, ℤ, pos, eqb}
use Rattle.octets.specs.Runs.{between}
use Rattle.schedule.specs.declared.Schedule.{Schedule}
use Rattle.schedule.specs.declared.Stars.{Stars}
use Rattle.schedule.specs.Local.{biased_offset}
use Rattle.line.specs.declared.Rules.{Rules}
use Rattle.line.specs.declared.time.When.{When}
use Rattle.line.specs.declared.time.When.TheVariants.{Reboot, Timed}
use Rattle.crontab.specs.declared.entry.Entry.{Entry}
use Rattle.line.specs.declared.user.Owner.{Owner}
use Rattle.line.specs.Assignments.{part_bytes}
use Rattle.line.specs.Words.{same}
use Rattle.crontab.specs.Owners.{owner_of}

-- L1: an entry's meaning; absent parts of the user column are empty
pub record EntryMeaning : Type 0 where
  pub when : When
  pub offset : ℤ
  pub command : List ℕ
  pub user : List ℕ
  pub group : List ℕ
  pub class : List ℕ

-- L1: the offset that an entry's time goes by; a boot entry has none, so each offset means the same as UTC
unfoldable pub clock_of : When → ℤ → ℤ
clock_of Reboot offset = pos 0
clock_of (Timed times) offset = offset

-- L1: the meaning of an entry
unfoldable pub duty_of : Rules → List ℕ → Entry → EntryMeaning
duty_of rules s e =
    let o = owner_of rules s e in
    record {
      when = e.when;
      offset = clock_of e.when e.offset;
      command = between s e.start e.end;
      user = part_bytes s o.user;
      group = part_bytes s o.group;
      class = part_bytes s o.class;
    }

-- ---- a test for it; that it is equality is `same-meaning-is` of proofs/Theorems

-- L1: one star flag
unfoldable pub same_flag : Bool → Bool → Bool
same_flag true b = b
same_flag false b = not b

-- L1: all star flags
unfoldable pub same_stars : Stars → Stars → Bool
same_stars a b =
    same_flag a.minutes b.minutes
    && (same_flag a.hours b.hours
    && (same_flag a.days b.days
    && (same_flag a.months b.months && same_flag a.weekdays b.weekdays)))

-- L1: schedules
unfoldable pub same_times : Schedule → Schedule → Bool
same_times a b =
    eqb a.minutes b.minutes
    && (eqb a.hours b.hours
    && (eqb a.days b.days
    && (eqb a.months b.months
    && (eqb a.weekdays b.weekdays && same_stars a.stars b.stars))))

-- L1: times
unfoldable pub same_when : When → When → Bool
same_when Reboot Reboot = true
same_when Reboot (Timed b) = false
same_when (Timed a) Reboot = false
same_when (Timed a) (Timed b) = same_times a b

-- L1: the three parts of a user column
unfoldable pub same_owner : List ℕ → Owner → List ℕ → Owner → Bool
same_owner s a t b =
    same (part_bytes s a.user) (part_bytes t b.user)
    && (same (part_bytes s a.group) (part_bytes t b.group) && same (part_bytes s a.class) (part_bytes t b.class))

-- L1: the same meaning
unfoldable pub same_meaning : EntryMeaning → EntryMeaning → Bool
same_meaning a b =
    (same_when a.when b.when && eqb (biased_offset a.offset) (biased_offset b.offset))
    && (same a.command b.command
    && (same a.user b.user && (same a.group b.group && same a.class b.class)))

-- L1: entry x of table s, and entry y of table t
unfoldable pub means_as : Rules → List ℕ → Entry → List ℕ → Entry → Bool
means_as rules s x t y = same_meaning (duty_of rules s x) (duty_of rules t y)
