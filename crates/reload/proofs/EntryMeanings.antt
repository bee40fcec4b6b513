-- Laws of the test for two duties.
-- Assumes nothing.
use mathlib.Core.Path.{◌≡◌, refl, sym, ap, ◌∙◌}
use Prim.Native.Nat.{ℕ}
use native.Mathlib.Omega.{arith}
use lib.IntN.{ℤ, pos, negsuc}
use mathlib.Core.Bool.{Bool, true, false, beq, ◌&&◌, true≢false, and-eq-true_iff}
use mathlib.Core.List.{List, [], ◌∷◌}
use lib.ListN.{length}
use lib.Dec.{eqb}
use lib.Pointwise.{pointwise}
use borrow.Author.Tests.{eq-eqb, ne_eqb, eqb-true, eqb-false}
use mir.Syntax.{w32}
use mir.Val.{to_z, of_z}
use Rattle.octets.specs.Runs.{between}
use Rattle.schedule.specs.declared.Schedule.{Schedule}
use Rattle.schedule.specs.declared.Stars.{Stars}
use Rattle.schedule.specs.Local.{OffsetInRange, biased_offset}
use Rattle.line.specs.declared.Rules.{Rules}
use Rattle.line.specs.declared.time.When.{When}
use Rattle.line.specs.declared.time.When.TheVariants.{Reboot, Timed}
use Rattle.line.specs.contracts.time.WhenPartialEq.TheImpl.{ghosts as derived}
use Rattle.crontab.specs.declared.entry.Entry.{Entry}
use Rattle.line.specs.Words.{same}
use Rattle.crontab.specs.Owners.{owner_of}
use Rattle.crontab.specs.Inner.{Sound}
use Rattle.line.proofs.Theorems.{kept, same_bits}
use Rattle.crontab.proofs.Theorems.{of-inside}
use Rattle.reload.specs.EntryMeanings.{EntryMeaning, same_flag, same_stars, same_times, same_when, same_owner, clock_of, duty_of, same_meaning}
use Rattle.reload.specs.Inner.{OwnerInside}

-- ---- offsets

-- one that may be is told by the number ahead
pub biased-offset-same : (y z : ℤ) → OffsetInRange y → OffsetInRange z → biased_offset y ≡ biased_offset z → y ≡ z
biased-offset-same (pos m) (pos n) h k e = let q : m ≡ n = omega arith in rw q
biased-offset-same (pos m) (negsuc n) h k e = absurd (omega arith)
biased-offset-same (negsuc m) (pos n) h k e = absurd (omega arith)
biased-offset-same (negsuc m) (negsuc n) h k e = let q : m ≡ n = omega arith in rw q

-- so `==` on two is a test of those numbers
offset-is : (y z : ℤ) → OffsetInRange y → OffsetInRange z → eqb (of_z w32 y) (of_z w32 z) ≡ eqb (biased_offset y) (biased_offset z)
offset-is y z h k = go (eqb (of_z w32 y) (of_z w32 z)) refl
  where
    go : (b : Bool) → eqb (of_z w32 y) (of_z w32 z) ≡ b → b ≡ eqb (biased_offset y) (biased_offset z)
    go true e = sym (eq-eqb (biased_offset y) (biased_offset z) (ap biased_offset (same_bits {y = y} {z = z} h k (eqb-true _ _ e))))
    go false e = sym (ne_eqb (biased_offset y) (biased_offset z) (λ q. eqb-false _ _ e (ap (of_z w32) (biased-offset-same y z h k q))))

-- what a time is read by may be, too
pub clock-zone : (a : When) (z : ℤ) → OffsetInRange z → OffsetInRange (clock_of a z)
unfolding clock_of
clock-zone Reboot z h = omega arith
clock-zone (Timed times) z h = h

-- two times with their offsets
abbrev pub same_time : When → ℤ → When → ℤ → Bool
same_time a y b z = same_when a b && eqb (biased_offset (clock_of a y)) (biased_offset (clock_of b z))

-- the same of two times
pub time-kept : (a : When) (y : ℤ) (b : When) (z : ℤ) {r : Bool} → OffsetInRange y → OffsetInRange z → r ≡ same_time a (to_z w32 (of_z w32 y)) b (to_z w32 (of_z w32 z))
    → r ≡ same_time a y b z
time-kept a y b z h k e = e ∙ ap (λ (x : ℤ). same_time a x b (to_z w32 (of_z w32 z))) (kept {z = y} h) ∙ ap (λ (x : ℤ). same_time a y b x) (kept {z = z} k)

-- ---- the test, as code makes it

flag-is : (a b : Bool) → beq a b ≡ same_flag a b
unfolding same_flag
flag-is true true = refl
flag-is true false = refl
flag-is false true = refl
flag-is false false = refl

-- `==` on two times
pub when-is : (a b : When) → derived.eq a b ≡ same_when a b
unfolding same_when same_times same_stars
when-is Reboot Reboot = refl
when-is Reboot (Timed b) = refl
when-is (Timed a) Reboot = refl
when-is (Timed a) (Timed b) =
    let s = a.stars in
    let t = b.stars in
    rw (flag-is s.minutes t.minutes, flag-is s.hours t.hours, flag-is s.days t.days, flag-is s.months t.months, flag-is s.weekdays t.weekdays)

-- and with their offsets
pub boot-time : (b : When) (y z : ℤ) → same_when Reboot b ≡ true → true ≡ same_time Reboot y b z
unfolding same_when clock_of
boot-time Reboot y z e = refl
boot-time (Timed b) y z e = absurd (true≢false (sym e))

pub timed-time : (a : Schedule) (b : When) (y z : ℤ) → OffsetInRange y → OffsetInRange z → same_when (Timed a) b ≡ true
    → eqb (of_z w32 y) (of_z w32 z) ≡ same_time (Timed a) y b z
unfolding same_when clock_of
timed-time a Reboot y z h k e = absurd (true≢false (sym e))
timed-time a (Timed b) y z h k e = rw e (offset-is y z h k)

-- `==` on bytes
pub bytes-are : (s t : List ℕ) → pointwise eqb s t ≡ same s t
unfolding same
bytes-are [] [] = refl
bytes-are [] (x ∷ t) = refl
bytes-are (b ∷ s) [] = refl
bytes-are (b ∷ s) (x ∷ t) = rw (bytes-are s t)

module _ (rules : Rules) (s : List ℕ) (x : Entry) (t : List ℕ) (y : Entry) {w : Bool}
    (when : w ≡ same_time x.when x.offset y.when y.offset) where
  pub same-meaning-not : w ≡ false → false ≡ same_meaning (duty_of rules s x) (duty_of rules t y)
  unfolding same_meaning duty_of
  same-meaning-not e = rw (← when, e)

  module _ {p : Bool} (command : p ≡ same (between s x.start x.end) (between t y.start y.end)) (both : w ≡ true) where
    pub same-meaning-other : p ≡ false → false ≡ same_meaning (duty_of rules s x) (duty_of rules t y)
    unfolding same_meaning duty_of
    same-meaning-other e = rw (← when, both, ← command, e)

    pub same-meaning-owner : {r : Bool} → p ≡ true → r ≡ same_owner s (owner_of rules s x) t (owner_of rules t y) → r ≡ same_meaning (duty_of rules s x) (duty_of rules t y)
    unfolding same_meaning duty_of same_owner
    same-meaning-owner e owner = rw (← when, both, ← command, e) owner

-- ---- an owner's parts stand in the table

pub owner-inside : (rules : Rules) (s : List ℕ) (e : Entry) → Sound (length s) e → OwnerInside (length s) (owner_of rules s e)
owner-inside rules s e h =
    let o = of-inside rules s e h in
    ((o.user.order, o.user.within), (o.group.order, o.group.within), (o.class.order, o.class.within))

-- ---- the test is equality

two : (a b : Bool) → (a && b) ≡ true → (a ≡ true) × (b ≡ true)
two a b e = (and-eq-true_iff a b).0 e

flag-eq : (a b : Bool) → same_flag a b ≡ true → a ≡ b
unfolding same_flag
flag-eq true true e = refl
flag-eq true false e = absurd (true≢false (sym e))
flag-eq false true e = absurd (true≢false (sym e))
flag-eq false false e = refl

flag_same : (a : Bool) → same_flag a a ≡ true
unfolding same_flag
flag_same true = refl
flag_same false = refl

stars_are : {a b c d e a' b' c' d' e' : Bool} → a ≡ a' → b ≡ b' → c ≡ c' → d ≡ d' → e ≡ e'
    → ◌≡◌ {A = Stars} (record { minutes = a; hours = b; days = c; months = d; weekdays = e }) (record { minutes = a'; hours = b'; days = c'; months = d'; weekdays = e' })
stars_are p q r s t = rw (p, q, r, s, t)

stars-eq : (a b : Stars) → same_stars a b ≡ true → a ≡ b
unfolding same_stars
stars-eq a b e =
    let p = two _ _ e in
    let q = two _ _ p.1 in
    let r = two _ _ q.1 in
    let s = two _ _ r.1 in
    stars_are (flag-eq _ _ p.0) (flag-eq _ _ q.0) (flag-eq _ _ r.0) (flag-eq _ _ s.0) (flag-eq _ _ s.1)

times-are : {a b c d e a' b' c' d' e' : ℕ} {s s' : Stars} → a ≡ a' → b ≡ b' → c ≡ c' → d ≡ d' → e ≡ e' → s ≡ s'
    → ◌≡◌ {A = Schedule} (record { minutes = a; hours = b; days = c; months = d; weekdays = e; stars = s })
    (record { minutes = a'; hours = b'; days = c'; months = d'; weekdays = e'; stars = s' })
times-are p q r s t u = rw (p, q, r, s, t, u)

times-eq : (a b : Schedule) → same_times a b ≡ true → a ≡ b
unfolding same_times
times-eq a b e =
    let p = two _ _ e in
    let q = two _ _ p.1 in
    let r = two _ _ q.1 in
    let s = two _ _ r.1 in
    let t = two _ _ s.1 in
    times-are (eqb-true _ _ p.0) (eqb-true _ _ q.0) (eqb-true _ _ r.0) (eqb-true _ _ s.0) (eqb-true _ _ t.0) (stars-eq _ _ t.1)

times-same : (a : Schedule) → same_times a a ≡ true
unfolding same_times same_stars
times-same a =
    rw (
      eq-eqb a.minutes a.minutes refl,
      eq-eqb a.hours a.hours refl,
      eq-eqb a.days a.days refl,
      eq-eqb a.months a.months refl,
      eq-eqb a.weekdays a.weekdays refl,
      flag_same a.stars.minutes,
      flag_same a.stars.hours,
      flag_same a.stars.days,
      flag_same a.stars.months,
      flag_same a.stars.weekdays,
    )

when-eq : (a b : When) → same_when a b ≡ true → a ≡ b
unfolding same_when
when-eq Reboot Reboot e = refl
when-eq Reboot (Timed b) e = absurd (true≢false (sym e))
when-eq (Timed a) Reboot e = absurd (true≢false (sym e))
when-eq (Timed a) (Timed b) e = ap Timed (times-eq a b e)

when-same : (a : When) → same_when a a ≡ true
unfolding same_when
when-same Reboot = refl
when-same (Timed a) = times-same a

bytes_eq : (s t : List ℕ) → same s t ≡ true → s ≡ t
unfolding same
bytes_eq [] [] e = refl
bytes_eq [] (x ∷ t) e = absurd (true≢false (sym e))
bytes_eq (b ∷ s) [] e = absurd (true≢false (sym e))
bytes_eq (b ∷ s) (x ∷ t) e = let p = two (eqb b x) (same s t) e in rw (eqb-true b x p.0, bytes_eq s t p.1)

bytes_same : (s : List ℕ) → same s s ≡ true
unfolding same
bytes_same [] = refl
bytes_same (b ∷ s) = rw (eq-eqb b b refl, bytes_same s)

duty-are : {w w' : When} {o o' : ℤ} {c c' u u' g g' k k' : List ℕ} → w ≡ w' → o ≡ o' → c ≡ c' → u ≡ u' → g ≡ g' → k ≡ k'
    → ◌≡◌ {A = EntryMeaning} (record { when = w; offset = o; command = c; user = u; group = g; class = k })
    (record { when = w'; offset = o'; command = c'; user = u'; group = g'; class = k' })
duty-are p q r s t u = rw (p, q, r, s, t, u)

pub same-meaning-eq : (a b : EntryMeaning) → OffsetInRange a.offset → OffsetInRange b.offset → same_meaning a b ≡ true → a ≡ b
unfolding same_meaning
same-meaning-eq a b h k e =
    let p = two _ _ e in
    let q = two _ _ p.0 in
    let r = two _ _ p.1 in
    let s = two _ _ r.1 in
    let t = two _ _ s.1 in
    duty-are (when-eq _ _ q.0) (biased-offset-same a.offset b.offset h k (eqb-true _ _ q.1)) (bytes_eq _ _ r.0) (bytes_eq _ _ s.0) (bytes_eq _ _ t.0) (bytes_eq _ _ t.1)

pub same-meaning-same : (a : EntryMeaning) → same_meaning a a ≡ true
unfolding same_meaning
same-meaning-same a =
    rw (
      when-same a.when,
      eq-eqb (biased_offset a.offset) (biased_offset a.offset) refl,
      bytes_same a.command,
      bytes_same a.user,
      bytes_same a.group,
      bytes_same a.class,
    )
