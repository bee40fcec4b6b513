-- Kind and dialect act apart from each other. So what is known of a line under two of the four rules is known of it under all four.
-- Assumes nothing.
use Rattle.std.specs.Prelude.{Some, None, Option, Ok, Err, Result}
use Rattle.refusal.specs.declared.Refusal.TheVariants.{LineTooLong, NoCommand, BadSetting, BadOffset}
use mathlib.Core.Path.{◌≡◌, refl, sym, ap, ◌∙◌}
use mathlib.Core.Bool.{Bool, true, false, cond}
use mathlib.Core.List.{List}
use Prim.Native.Nat.{ℕ, ◌+◌}
use lib.ListN.{length, get_or}
use lib.Dec.{eqb, leb, ltb}
use Rattle.octets.specs.declared.class.Class.TheVariants.{Blank, InLine}
use Rattle.octets.specs.Runs.{skipped}
use Rattle.field.specs.declared.Dialect.{Dialect}
use Rattle.line.specs.declared.Rules.{Rules}
use Rattle.line.specs.declared.Kind.{Kind}
use Rattle.line.specs.declared.Kind.TheVariants.{User, System}
use Rattle.line.specs.declared.time.When.{When}
use Rattle.line.specs.declared.time.Time.{Time}
use Rattle.line.specs.declared.user.Column.{Column}
use Rattle.line.specs.declared.Line.{Line}
use Rattle.line.specs.declared.Line.TheVariants.{Ignored, Setting, Entry}
use Rattle.line.specs.Limits.{max_line}
use Rattle.line.specs.Words.{word_at}
use Rattle.line.specs.Users.{column_at}
use Rattle.line.specs.Entries.{at_sign, time_at, with_command, after_owner, with_user, by_kind, after_time, entry_at}
use Rattle.line.specs.declared.Part.{Part}
use Rattle.line.specs.declared.assignment.Text.{Text}
use Rattle.line.specs.Offsets.{zone_of, is_allowed_setting}
use Rattle.line.specs.Assignments.{part_bytes, name_at, value_at, after_equals, after_name, setting_at}
use Rattle.line.specs.Lines.{starts_entry, content_from, content_of, byte_fault, read_line}
use Rattle.line.proofs.LineViews.{content_start}
use Rattle.line.proofs.TimeViews.{time-view}
use Rattle.line.proofs.Zones.{zoned-is}
use Rattle.line.specs.Times.{time_of}
use Rattle.field.specs.declared.Fault.{Fault}

abbrev pub rules_of : Kind → Dialect → Rules
rules_of k d = record { kind = k; dialect = d }

-- the first byte of a line that isn't blank
abbrev pub first_byte : List ℕ → ℕ
first_byte s = get_or s (content_start s) 0

-- ---- what a line is, by what its entry would be

-- as `read_line` has it, with any reading of an entry
abbrev line_by : List ℕ → Result Line Fault → Result Line Fault
line_by s e =
    cond (ltb max_line (length s)) (Err (record { refusal = LineTooLong; column = 1001 }))
    (cond (ltb (skipped InLine s 0) (length s)) (Err (byte_fault s))
    (cond (leb (length s) (content_start s)) (Ok Ignored)
    (cond (eqb (first_byte s) 35) (Ok Ignored)
    (cond (starts_entry (first_byte s)) e (setting_at s (content_start s))))))

line-is : (rules : Rules) (s : List ℕ) → read_line rules s ≡ line_by s (entry_at rules s (content_start s))
unfolding read_line content_of content_from
line-is rules s = refl

-- ---- the kind: a system's line is the user's, up to the end of the time

-- the line of a system table, by the same line of a user's: only where that has an entry is there a user column, at the first byte after the time,
-- and the command after it
unfoldable pub with_column : List ℕ → Result Line Fault → Result Line Fault
with_column s (Ok Ignored) = Ok Ignored
with_column s (Ok (Setting name value z)) = Ok (Setting name value z)
with_column s (Ok (Entry when start)) = after_owner s when start (column_at s start)
with_column s (Err f) = Err f

-- of the entry
column-after : (d : Dialect) (s : List ℕ) (at : ℕ) → entry_at (rules_of System d) s at ≡ with_column s (entry_at (rules_of User d) s at)
unfolding entry_at after_time with_command with_user with_column
column-after d s at = go (time_at d s at)
  where
    command : (b : Bool) (when : When) (next : ℕ)
        → cond b (after_owner s when next (column_at s next)) (cond b (Ok (Entry when next)) (Err (record { refusal = NoCommand; column = length s + 1 })))
        ≡ with_column s (cond b (Ok (Entry when next)) (Err (record { refusal = NoCommand; column = length s + 1 })))
    command true when next = refl
    command false when next = refl

    go : (t : Result Time Fault) → after_time (rules_of System d) s t ≡ with_column s (after_time (rules_of User d) s t)
    go (Err f) = refl
    go (Ok t) = command (ltb t.next (length s)) t.when t.next

-- ---- a line that is no entry

abbrev NoEntry : Result Line Fault → Type 0
NoEntry (Ok Ignored) = Unit {0}
NoEntry (Ok (Setting name value z)) = Unit {0}
NoEntry (Ok (Entry when start)) = ⊥
NoEntry (Err f) = Unit {0}

setting-no-entry : (s : List ℕ) (at : ℕ) → NoEntry (setting_at s at)
unfolding setting_at after_name after_equals
setting-no-entry s at = named (name_at s at)
  where
    valued : (start : ℕ) (name : Part) (t : Option Text) → NoEntry (after_equals s at start name t)
    valued start name None = tt
    valued start name (Some w) = rw (zoned-is s start name w.part) (go (is_allowed_setting (part_bytes s name) (part_bytes s w.part)))
      where
        go : (b : Bool) → NoEntry (cond b (Ok (Setting name w.part (zone_of (part_bytes s name) (part_bytes s w.part)))) (Err (record { refusal = BadOffset; column = start + 1 })))
        go true = tt
        go false = tt

    named : (t : Option Text) → NoEntry (after_name s at t)
    named None = tt
    named (Some w) = go (eqb (get_or s (skipped Blank s w.next) 0) 61)
      where
        start : ℕ
        start = skipped Blank s (skipped Blank s w.next + 1)

        go : (b : Bool) → NoEntry (cond b (after_equals s at start w.part (value_at s start)) (Err (record { refusal = BadSetting; column = at + 1 })))
        go true = valued start w.part (value_at s start)
        go false = tt

-- what changes entries alone
abbrev OnEntries : (Result Line Fault → Result Line Fault) → Type 0
OnEntries f = (l : Result Line Fault) → NoEntry l → f l ≡ l

line-changed : (s : List ℕ) (f : Result Line Fault → Result Line Fault) (e : Result Line Fault) → OnEntries f → line_by s (f e) ≡ f (line_by s e)
line-changed s f e on = go (ltb max_line (length s)) (ltb (skipped InLine s 0) (length s)) (leb (length s) (content_start s)) (eqb (first_byte s) 35) (starts_entry (first_byte s))
  where
    by : Bool → Bool → Bool → Bool → Bool → Result Line Fault → Result Line Fault
    by a b c g h e =
        cond a (Err (record { refusal = LineTooLong; column = 1001 })) (cond b (Err (byte_fault s)) (cond c (Ok Ignored) (cond g (Ok Ignored) (cond h e (setting_at s (content_start s))))))

    go : (a b c g h : Bool) → by a b c g h (f e) ≡ f (by a b c g h e)
    go true b c g h = sym (on (Err (record { refusal = LineTooLong; column = 1001 })) tt)
    go false true c g h = sym (on (Err (byte_fault s)) tt)
    go false false true g h = sym (on (Ok Ignored) tt)
    go false false false true h = sym (on (Ok Ignored) tt)
    go false false false false true = refl
    go false false false false false = sym (on (setting_at s (content_start s)) (setting-no-entry s (content_start s)))

column-entries : (s : List ℕ) → OnEntries (with_column s)
unfolding with_column
column-entries s (Ok Ignored) h = refl
column-entries s (Ok (Setting name value z)) h = refl
column-entries s (Ok (Entry when start)) h = absurd h
column-entries s (Err f) h = refl

-- ---- the kind: a system's line is the user's up to the end of the time, in each dialect

-- so where the user's is refused, the system's is refused likewise, at the same column; an entry of both has the same time; and all else is the same
pub system-line : (d : Dialect) (s : List ℕ) → read_line (rules_of System d) s ≡ with_column s (read_line (rules_of User d) s)
system-line d s =
    line-is (rules_of System d) s
    ∙ ap (line_by s) (column-after d s (content_start s))
    ∙ line-changed s (with_column s) (entry_at (rules_of User d) s (content_start s)) (column-entries s)
    ∙ ap (with_column s) (sym (line-is (rules_of User d) s))

-- ---- the dialect: it changes the time alone

unfoldable pub with_when : When → Result Line Fault → Result Line Fault
with_when when (Ok Ignored) = Ok Ignored
with_when when (Ok (Setting name value z)) = Ok (Setting name value z)
with_when when (Ok (Entry other start)) = Ok (Entry when start)
with_when when (Err f) = Err f

when-entries : (when : When) → OnEntries (with_when when)
unfolding with_when
when-entries when (Ok Ignored) h = refl
when-entries when (Ok (Setting name value z)) h = refl
when-entries when (Ok (Entry other start)) h = absurd h
when-entries when (Err f) h = refl

-- a time that both read ends at the same place
pub time-ends : (d e : Dialect) (s : List ℕ) (at : ℕ) {when other : When} {next end : ℕ}
    → time_at d s at ≡ time_of when next → time_at e s at ≡ time_of other end → next ≡ end
time-ends d e s at p q = sym (rw p at (time-view d s at)).ends ∙ (rw q at (time-view e s at)).ends

command-retimed : (s : List ℕ) (when other : When) (start : ℕ) → with_command s other start ≡ with_when other (with_command s when start)
unfolding with_command with_when
command-retimed s when other start = go (ltb start (length s))
  where
    go : (b : Bool) → cond b (Ok (Entry other start)) (Err (record { refusal = NoCommand; column = length s + 1 }))
        ≡ with_when other (cond b (Ok (Entry when start)) (Err (record { refusal = NoCommand; column = length s + 1 })))
    go true = refl
    go false = refl

user-retimed : (s : List ℕ) (when other : When) (at : ℕ) → with_user s other at ≡ with_when other (with_user s when at)
unfolding with_user after_owner with_when
user-retimed s when other at = go (ltb at (length s)) (column_at s at)
  where
    go : (b : Bool) (c : Option Column) → cond b (after_owner s other at c) (with_command s other at) ≡ with_when other (cond b (after_owner s when at c) (with_command s when at))
    go true None = refl
    go true (Some w) = command-retimed s when other (skipped Blank s w.next)
    go false c = command-retimed s when other at

kind-retimed : (k : Kind) (s : List ℕ) (when other : When) (next : ℕ)
    → by_kind k (with_command s other next) (with_user s other next) ≡ with_when other (by_kind k (with_command s when next) (with_user s when next))
kind-retimed User s when other next = command-retimed s when other next
kind-retimed System s when other next = user-retimed s when other next

entry-retimed : (k : Kind) (d e : Dialect) (s : List ℕ) (at : ℕ) {when other : When} {next end : ℕ}
    → time_at d s at ≡ time_of when next → time_at e s at ≡ time_of other end → entry_at (rules_of k e) s at ≡ with_when other (entry_at (rules_of k d) s at)
unfolding entry_at after_time
entry-retimed k d e s at {when} {other} {next} {end} p q = rw (p, q, ← (time-ends d e s at p q)) (kind-retimed k s when other next)

-- where both dialects read a line's time, the lines are the same but for it: user column and command, or what is refused of them, in each kind
pub dialect-line : (k : Kind) (d e : Dialect) (s : List ℕ) {when other : When} {next end : ℕ}
    → time_at d s (content_start s) ≡ time_of when next → time_at e s (content_start s) ≡ time_of other end
    → read_line (rules_of k e) s ≡ with_when other (read_line (rules_of k d) s)
dialect-line k d e s {when} {other} p q =
    line-is (rules_of k e) s
    ∙ ap (line_by s) (entry-retimed k d e s (content_start s) p q)
    ∙ line-changed s (with_when other) (entry_at (rules_of k d) s (content_start s)) (when-entries other)
    ∙ ap (with_when other) (sym (line-is (rules_of k d) s))

-- ---- lines that rules read alike

time-same : (k : Kind) (d e : Dialect) (s : List ℕ) (t : Result Time Fault) → after_time (rules_of k d) s t ≡ after_time (rules_of k e) s t
unfolding after_time
time-same k d e s (Err f) = refl
time-same k d e s (Ok t) = refl

word_same : (k : Kind) (d e : Dialect) (s : List ℕ) → first_byte s ≡ at_sign
    → entry_at (rules_of k d) s (content_start s) ≡ entry_at (rules_of k e) s (content_start s)
unfolding entry_at time_at
word_same k d e s first = rw first (time-same k d e s (word_at s (content_start s)))

-- a word is the same in both dialects, known or unknown, and so is all after it
pub word_line : (k : Kind) (d e : Dialect) (s : List ℕ) → first_byte s ≡ at_sign → read_line (rules_of k d) s ≡ read_line (rules_of k e) s
word_line k d e s first = line-is (rules_of k d) s ∙ ap (line_by s) (word_same k d e s first) ∙ sym (line-is (rules_of k e) s)

-- a line that doesn't start as an entry is the same under all rules
pub other-line : (rules others : Rules) (s : List ℕ) → starts_entry (first_byte s) ≡ false → read_line rules s ≡ read_line others s
other-line rules others s first = line-is rules s ∙ rw first refl ∙ sym (line-is others s)
