-- Laws of the functions that read records: what a body holds, test by test; where a record stands; and the walk that measures.
-- Assumes nothing.
use Rattle.refusal.specs.declared.Refusal.{Refusal}
use Rattle.refusal.specs.declared.Refusal.TheVariants.{CutShort, Meaningless}
use Rattle.std.specs.Prelude.{Result, Ok, Err, IfOk}
use mathlib.Core.Path.{◌≡◌, refl, sym, ap, ◌∙◌}
use mathlib.Core.Bool.{Bool, true, false, cond, ◌&&◌, or-true}
use mathlib.Core.List.{List, [], ◌∷◌, ◌++◌}
use Prim.Native.Nat.{ℕ, ◌+◌, ◌-◌, ◌≤◌, ◌<◌}
use native.Mathlib.Nat.{add-zero}
use native.Mathlib.Omega.{arith}
use lib.ListN.{length, take, drop, length-drop}
use lib.Seq.{take_all, drop-drop}
use lib.Dec.{eqb, leb, ltb}
use borrow.Author.Tests.{le-leb, lt-leb, lt-ltb, le-ltb}
use Rattle.octets.specs.Runs.{between}
use Rattle.normal.specs.Meanings.{setting, timed, entry_item}
use Rattle.normal.specs.Texts.{item_text}
use Rattle.normal.specs.Proper.{is_command, is_schedule, is_item}
use Rattle.octets.specs.LittleEndian.{number_of}
use Rattle.line.specs.declared.time.When.{When}
use Rattle.line.specs.declared.time.When.TheVariants.{Reboot, Timed}
use Rattle.records.specs.declared.body.Content as held
use Rattle.records.specs.declared.body.Content.TheVariants.{Skipped, Entry, Setting}
use Rattle.records.specs.declared.record.Step.{Step}
use Rattle.records.specs.Formats.{kind_of}
use Rattle.records.specs.Readings.{number_at, length_at, is_cut, decode_from, after_record, schedule_at, timed_in, setting_in, refused, means, meant, content_of}
use Rattle.records.specs.InnerReaders.{found, Within, places_of, BodyIs, step_at, StepIs, line_found}
use Rattle.records.proofs.Splits.{split-cut, split-next}

-- ---- a body

module _ (body : List ℕ) where
  pub timed-short : length body < 20 → refused Meaningless ≡ meant 1 (timed_in body)
  unfolding timed_in meant
  timed-short h = rw (lt-leb 20 (length body) h)

  pub timed-flags : 32 ≤ number_at body 19 1 → refused Meaningless ≡ meant 1 (timed_in body)
  unfolding timed_in meant
  timed-flags h = rw (le-ltb (number_at body 19 1) 32 h) (go (leb 20 (length body)))
    where
      go : (t : Bool) → refused Meaningless ≡ meant 1 (cond (t && false) (timed (schedule_at body) (drop 20 body) ∷ []) [])
      go true = refl
      go false = refl

  pub timed-meant : 20 ≤ length body → number_at body 19 1 < 32 → (t : Bool) → (is_schedule (schedule_at body) && is_command (drop 20 body)) ≡ t
      → cond t (means (timed (schedule_at body) (drop 20 body))) (refused Meaningless) ≡ meant 1 (timed_in body)
  unfolding timed_in meant is_item kind_of
  timed-meant h k t e = rw (le-leb 20 (length body) h, lt-ltb (number_at body 19 1) 32 k, e)

  pub setting-short : (kind : ℕ) → length body < 2 → refused Meaningless ≡ meant kind (setting_in body)
  unfolding setting_in meant
  setting-short kind h = rw (lt-leb 2 (length body) h)

  pub setting-past : (kind : ℕ) → length body < 2 + number_at body 0 2 → refused Meaningless ≡ meant kind (setting_in body)
  unfolding setting_in meant
  setting-past kind h = rw (lt-leb (2 + number_at body 0 2) (length body) h) (go (leb 2 (length body)))
    where
      go : (t : Bool) → refused Meaningless ≡ meant kind (cond (t && false) (setting (between body 2 (2 + number_at body 0 2)) (drop (2 + number_at body 0 2) body) ∷ []) [])
      go true = refl
      go false = refl

  pub setting-meant : (kind : ℕ) → 2 + number_at body 0 2 ≤ length body
      → let value = 2 + number_at body 0 2 in
      let i = setting (between body 2 value) (drop value body) in
      (t : Bool) → (eqb (kind_of i) kind && is_item i) ≡ t → cond t (means i) (refused Meaningless) ≡ meant kind (setting_in body)
  unfolding setting_in meant
  setting-meant kind h t e = rw (le-leb 2 (length body) (omega arith), le-leb (2 + number_at body 0 2) (length body) h, e)

-- the places are those that what is found has
places-found : (body : List ℕ) (r : Result held.Content Refusal) → IfOk r (Within body) → r ≡ places_of body (found body r)
unfolding places_of found entry_item
places-found body (Ok Skipped) h = refl
places-found body (Err refusal) h = refl
places-found body (Ok (Entry Reboot start)) h = let e : length body - length (drop start body) ≡ start = omega (arith, length-drop start body) in rw e
places-found body (Ok (Entry (Timed s) start)) h = let e : length body - length (drop start body) ≡ start = omega (arith, length-drop start body) in rw e
places-found body (Ok (Setting value)) h = let e : length body - length (drop value body) ≡ value = omega (arith, length-drop value body) in rw e

pub body_is : (kind : ℕ) (body : List ℕ) (r : Result held.Content Refusal) → found body r ≡ content_of kind body → IfOk r (Within body) → BodyIs kind body r
body_is kind body r e h = record { is = places-found body r h ∙ rw e; gives = e; parts = h }

-- the rest of a body, as a part of it
pub rest_part : (s : List ℕ) (at : ℕ) → take (length s - at) (drop at s) ≡ drop at s
rest_part s at = take_all (length s - at) (drop at s) (omega (arith, length-drop at s))

-- ---- a record at a place

part_at : (s : List ℕ) (at a b : ℕ) → between (drop at s) a b ≡ between s (at + a) (at + b)
unfolding between
part_at s at a b = let e : at + b - (at + a) ≡ b - a = omega arith in rw (e, drop-drop a at s)

number-at : (s : List ℕ) (at a size : ℕ) → number_at (drop at s) a size ≡ number_of (between s (at + a) (at + a + size))
unfolding number_at
number-at s at a size = let e : at + (a + size) ≡ at + a + size = omega arith in rw (part_at s at a (a + size), e)

module _ (s : List ℕ) where
  pub cut-none : length s < 2 → is_cut s ≡ true
  unfolding is_cut
  cut-none h = rw (lt-ltb (length s) 2 h)

  pub cut_small : length_at s < 2 → is_cut s ≡ true
  unfolding is_cut
  cut_small h = rw (lt-ltb (length_at s) 2 h) (or-true (ltb (length s) 2))

  pub cut-past : length s < 2 + length_at s → is_cut s ≡ true
  unfolding is_cut
  cut-past h = rw (lt-ltb (length s) (2 + length_at s) h, or-true (ltb (length_at s) 2)) (or-true (ltb (length s) 2))

  pub cut-not : 2 ≤ length_at s → 2 + length_at s ≤ length s → is_cut s ≡ false
  unfolding is_cut
  cut-not low fit = rw (le-ltb (length s) 2 (omega arith), le-ltb (length_at s) 2 low, le-ltb (length s) (2 + length_at s) fit)

step-parts : (r q : Step) → r.content ≡ q.content → r.start ≡ q.start → r.end ≡ q.end → r ≡ q
step-parts r q c a e = ap (λ (x : Result held.Content Refusal). record { content = x; start = r.start; end = r.end }) c
    ∙ ap (λ (x : ℕ). record { content = q.content; start = x; end = r.end }) a
    ∙ ap (λ (x : ℕ). record { content = q.content; start = q.start; end = x }) e

module _ (s : List ℕ) (at : ℕ) (r : Step) (some : at < length s) where
  left : length (drop at s) ≡ length s - at
  left = length-drop at s

  pub cut_step_lem : is_cut (drop at s) ≡ true → r.content ≡ Err CutShort → r.start ≡ length s → r.end ≡ length s → StepIs s at r
  unfolding found decode_from after_record step_at
  cut_step_lem cut c a e =
      record {
        is = rw cut (step-parts r _ c a e);
        gives = λ n. rw (split-cut (drop at s) (omega (arith, left)) cut, c);
        onward = omega arith;
        order = omega arith;
        within = omega arith;
        short = omega arith;
        parts = rw c tt;
      }

  -- the length and the kind, as they are read
  module _ (size : ℕ) (is-size : size ≡ number_of (between s at (at + 2))) where
    size-here : length_at (drop at s) ≡ size
    size-here = number-at s at 0 2 ∙ rw (add-zero at) (sym is-size)

    pub small_cut : size < 2 → is_cut (drop at s) ≡ true
    small_cut h = cut_small (drop at s) (rw size-here h)

    pub past-cut : length s - at < 2 + size → is_cut (drop at s) ≡ true
    past-cut h = cut-past (drop at s) (rw (size-here, left) h)

    pub next-step : (kind : ℕ) → kind ≡ number_of (between s (at + 2) (at + 2 + 2)) → 2 ≤ size → 2 + size ≤ length s - at → size < 65536
        → r.start ≡ at + 4 → r.end ≡ at + 2 + size
        → BodyIs kind (between s (at + 4) (at + 2 + size)) r.content → StepIs s at r
    unfolding decode_from step_at
    next-step kind is-kind low fit small is-start is-end read =
        let all : is_cut (drop at s) ≡ false = cut-not (drop at s) (rw size-here low) (rw (size-here, left) fit) in
        let k : number_at (drop at s) 2 2 ≡ kind = number-at s at 2 2 ∙ sym is-kind in
        let e : at + (2 + size) ≡ at + 2 + size = omega arith in
        let body : between (drop at s) 4 (2 + size) ≡ between s (at + 4) (at + 2 + size) = part_at s at 4 (2 + size) ∙ rw e in
        let later : drop (2 + size) (drop at s) ≡ drop (at + 2 + size) s = drop-drop (2 + size) at s ∙ rw e in
        record {
          is = rw (all, k, size-here, body) (step-parts r _ read.is is-start is-end);
          gives = λ n. rw (is-start, is-end, read.gives, split-next (drop at s) (omega (arith, left)) all, size-here, k, body, later);
          onward = omega arith;
          order = omega arith;
          within = omega arith;
          short = omega arith;
          parts = rw (is-start, is-end) read.parts;
        }

-- ---- the line of what is found

-- a body's rest is a part of it
pub between-rest : (s : List ℕ) (at : ℕ) → between s at (length s) ≡ drop at s
unfolding between
between-rest s at = rest_part s at

module _ (body : List ℕ) (x : held.Content) where
  pub found_none : x ≡ Skipped → line_found body x ≡ []
  unfolding line_found
  found_none e = rw e

  module _ {when : When} {start : ℕ} (e : x ≡ Entry when start) where
    pub entry-within : Within body x → start ≤ length body
    entry-within h = rw e at h

    pub found-entry : line_found body x ≡ item_text (entry_item when (between body start (length body))) ++ 10 ∷ []
    unfolding line_found
    found-entry = rw (e, between-rest body start)

  module _ {value : ℕ} (e : x ≡ Setting value) where
    pub setting-within : Within body x → (2 ≤ value) × (value ≤ length body)
    setting-within h = rw e at h

    pub found-setting : line_found body x ≡ item_text (setting (between body 2 value) (between body value (length body))) ++ 10 ∷ []
    unfolding line_found
    found-setting = rw (e, between-rest body value)
