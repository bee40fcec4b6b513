-- Laws of an entry's owner: the owner that is shown is the one that was judged.
-- Assumes nothing.
use mathlib.Core.Path.{◌≡◌, refl, ap, subst, ◌∙◌}
use mathlib.Core.List.{List}
use Prim.Native.Nat.{ℕ, ◌-◌, ◌≤◌, ◌<◌}
use native.Mathlib.Omega.{arith}
use borrow.Author.Tests.{lt-ltb, le-ltb}
use Rattle.std.specs.Prelude.{Result, Ok}
use Rattle.refusal.specs.declared.Refusal.{Refusal}
use Rattle.octets.specs.declared.class.Class.TheVariants.{Blank}
use Rattle.octets.specs.Runs.{skipped, between}
use Rattle.line.specs.declared.Rules.{Rules}
use Rattle.field.specs.declared.Dialect.TheVariants.{Wrapping}
use Rattle.line.specs.declared.Kind.{Kind}
use Rattle.line.specs.declared.Kind.TheVariants.{System}
use Rattle.line.specs.declared.Part.{Part}
use Rattle.crontab.specs.declared.entry.Entry.{Entry}
use Rattle.line.specs.declared.user.Owner.{Owner}
use Rattle.line.specs.Users.{absent, column_at, column_of}
use Rattle.line.specs.Entries.{time_at}
use Rattle.crontab.specs.Items.{moved}
use Rattle.crontab.specs.Tables.{table_of, entry_in}
use Rattle.crontab.specs.Owners.{shifted, shifted_all, owner_from, owner_of, owner_answer, owner_in}
use Rattle.line.specs.Owners.{behind, time_runs, named_owner, line_owner}
use Rattle.line.proofs.Theorems.{time-view, column-view, content_start, AfterUser, CommandAt, line_view}
use Rattle.crontab.proofs.Sound.{EntryLine}
use Rattle.crontab.proofs.EntryViews.{found-entry}
use Rattle.line.specs.Times.{time_of}

-- a part of a line is shown where it is in the table, and an empty one as absent
abbrev pub ShownAt : ℕ → Part → Part → Type 0
ShownAt at p shown = (p.start < p.end → shown ≡ moved at p) × (p.end ≤ p.start → shown ≡ absent)

-- An entry of a system table: its line is the one that was judged; there the column after the time was accepted, and what it names is shown, as
-- parts of the table. Its user isn't empty. Nothing is refused.
pub record OwnerJudged (rules : Rules) (s : List ℕ) (e : Entry) (answer : Result Owner Refusal) : Type 0 where
  pub shown : Owner
  pub given : answer ≡ Ok shown
  pub line : EntryLine rules s e
  pub next : ℕ
  pub time : time_at rules.dialect (between s e.at e.end) (content_start (between s e.at e.end)) ≡ time_of e.when next
  pub owner : Owner
  pub end : ℕ
  pub column : column_at (between s e.at e.end) next ≡ column_of owner end
  pub command : e.start - e.at ≡ skipped Blank (between s e.at e.end) end
  pub user : shown.user ≡ moved e.at owner.user
  pub group : ShownAt e.at owner.group shown.group
  pub class : ShownAt e.at owner.class shown.class
  pub some : owner.user.start < owner.user.end

-- what is shown of an entry, by the column that was accepted
shown-is : (rules : Rules) (s : List ℕ) (e : Entry) (owner : Owner) (next end : ℕ)
    → let l = between s e.at e.end in
    rules.kind ≡ System → behind (time_runs l (content_start l)) l (content_start l) ≡ next → column_at l next ≡ column_of owner end
    → owner_of rules s e ≡ shifted_all e.at owner
unfolding owner_of owner_from line_owner named_owner
shown-is rules s e owner next end system ends column = rw (system, ends, column)

kept : (at : ℕ) (p : Part) → p.start < p.end → shifted at p ≡ moved at p
unfolding shifted
kept at p some = rw (lt-ltb p.start p.end some)

none : (at : ℕ) (p : Part) → p.end ≤ p.start → shifted at p ≡ absent
unfolding shifted
none at p h = rw (le-ltb p.start p.end h)

pub owner-judged : (rules : Rules) (s : List ℕ) (i : ℕ) {e : Entry} → rules.kind ≡ System → entry_in (table_of rules s) i ≡ Ok e
    → OwnerJudged rules s e (owner_in rules s i)
unfolding owner_answer
owner-judged rules s i {e} system found =
    let f = found-entry rules s i found in
    let l = between s e.at e.end in
    let v = (rw f.line.read at (line_view rules l)).1 in
    let u : AfterUser l v.next (e.start - e.at) = subst (λ (k : Kind). CommandAt k l v.next (e.start - e.at)) system v.command in
    let ends = (rw v.time at (time-view rules.dialect l (content_start l))).ends in
    let some = (rw u.column at (column-view l v.next)).0 in
    let is = shown-is rules s e u.owner v.next u.end system ends u.column in
    let group = ap (λ (o : Owner). o.group) is in
    let class = ap (λ (o : Owner). o.class) is in
    record {
      shown = owner_of rules s e;
      given = ap (owner_answer rules s) found;
      line = f.line;
      next = v.next;
      time = v.time;
      owner = u.owner;
      end = u.end;
      column = u.column;
      command = u.command;
      user = ap (λ (o : Owner). o.user) is ∙ kept e.at u.owner.user some;
      group = ((λ h. group ∙ kept e.at u.owner.group h), (λ h. group ∙ none e.at u.owner.group h));
      class = ((λ h. class ∙ kept e.at u.owner.class h), (λ h. class ∙ none e.at u.owner.class h));
      some = some;
    }

-- used for entry 511 of a table in the second dialect: somebody is named, on the entry's line
pub owner-named : (s : List ℕ) {e : Entry}
    → let rules : Rules = record { kind = System; dialect = Wrapping } in
    entry_in (table_of rules s) 511 ≡ Ok e → (o : Owner) × (owner_in rules s 511 ≡ Ok o) × (e.at ≤ o.user.start) × (o.user.start < o.user.end)
owner-named s found =
    let j = owner-judged (record { kind = System; dialect = Wrapping }) s 511 refl found in
    (j.shown, j.given, rw j.user (omega arith), rw j.user (omega (arith, j.some)))
