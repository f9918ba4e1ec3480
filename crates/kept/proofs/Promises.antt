-- What is promised of the two entries, from a sheet's bytes on: of `keep_of` and `correct_of`, which
-- the contracts of `keep` and `correct` cite, for every sheet, direction, list, index and fix.
-- Assumes nothing.
use Prim.Native.Nat.{ℕ, suc, ◌+◌, ◌-◌, ◌*◌, ◌/◌, ◌≤◌, ◌<◌}
use native.Mathlib.Omega.{arith}
use native.Mathlib.Nat.{add-zero}
use mathlib.Core.Bool.{Bool, true, false, not, cond, ◌&&◌, ◌||◌, true≢false}
use mathlib.Core.Logic.{◌⊎◌, inl, inr, ⊎_elim}
use mathlib.Core.Path.{◌≡◌, refl, sym, ap, ◌∙◌, subst}
use mathlib.Core.List.{List, [], ◌∷◌}
use lib.Dec.{eqb, leb}
use lib.ListN.{length, take, drop}
use lib.Seq.{take-add, take-take, take_at, length-take-le}
use lib.Ieee.{Float, nan}
use borrow.Author.Tests.{ne_eqb, eqb-true, eqb-false, leb-true, leb-false, ltb-false, lt-ltb, not-true, not-false}
use Rattle.tuple.specs.declared.Tuple.{Tuple}
use Rattle.helmert.specs.declared.Shift.{Shift}
use Rattle.helmert.specs.declared.State.{State}
use Rattle.helmert.specs.Modes.{start_of, is_running_of, step_of}
use Rattle.badekas.proofs.Records.{shift_not_dynamic}
use Rattle.bodies.specs.declared.Step.{Step}
use Rattle.bodies.specs.declared.Step.TheVariants as step
use Rattle.bodies.specs.Kinds.{kind_of}
use Rattle.bodies.proofs.Laws.{kind_after_read}
use Rattle.sheet.specs.declared.Entry.{Entry}
use Rattle.sheet.specs.declared.Refusal.{Refusal}
use Rattle.sheet.specs.Layout.{step_count_of, kind_at, inverted_at, body_at, step_at, entry_at}
use Rattle.sheet.specs.Rules.{has_deformation, refusal_of}
use Rattle.sheet.proofs.Order.{neither}
use Rattle.sheet.proofs.Accepted.{accepted-keeps, body_kept}
use Rattle.lists.specs.Flat.{numbers_of, tuple_at, put_at}
use Rattle.lists.specs.Run.{Turns, ran_of, state_after_of}
use Rattle.lists.proofs.Places.{put_none, put-length, put-take}
use Rattle.lists.proofs.Laws.{ran_length}
use Rattle.lists.proofs.Results.{track_at, result_at}
use Rattle.helmert.specs.Turns.{helmert_turns}
use Rattle.plans.specs.Lent.{lent_of}
use Rattle.chain.specs.Chain.{turns_of, state_of, reversed_of, step_list_of, Run, chain_of, entries_of}
use Rattle.chain.specs.Rules.{refusal10, over_one, ran_outcome, shift_of}
use Rattle.chain.proofs.Laws.{one-step-forward, one-step-inverse}
use Rattle.chain.proofs.Outcome.{run-through}
use Rattle.stretch.specs.Kept.{tracked_of, held_of, Kept, fresh_of, carried_at, kept_at, Stretch, before_of, put_fix, corrected_of, Correction}
use Rattle.stretch.specs.Unwritten.{Unwritten}
use Rattle.kept.specs.Corrections.{kept_after_of, stands_after_of}
use Rattle.kept.specs.Still.{Still}
use Rattle.kept.specs.Entries.{refusal12, refusal14, keep_refusal_of, correct_refusal_of, step_shift_of, shift_in, reversed_in, keep_of, CorrectOutcome, outcome, corrected_as, correct_of}
use Rattle.stretch.proofs.Meeting.{state_stays, whole_take, state_append, track_length}
use Rattle.kept.proofs.Answers.{Passed, passed, below, keep-done, taken, not-refused, correct-done, correct-refused-14}
use Rattle.stretch.proofs.Laws.{step_stays, fresh_list, before-is, corrected-equals-fresh, redone_is_the_stretch, results-outside, track-outside, list-outside, still-track, still-redoes-one}

-- ---- the one step is the chain's

-- a kind that has a shift: Helmert's, or the ten-parameter step's
abbrev Shifts : ℕ → Type 0
Shifts kind = (kind ≡ 1) ⊎ (kind ≡ 6)

-- no other kind is one of the two
no_shift : {A : Type 0} (kind : ℕ) → (kind ≡ 1 → ⊥) → (kind ≡ 6 → ⊥) → Shifts kind → A
no_shift kind a b e = absurd (⊎_elim a b e)

shift_turns : (inverse : Bool) (st : Step) → Shifts (kind_of st) → turns_of inverse (lent_of [] [] []) st ≡ helmert_turns inverse (step_shift_of st)
unfolding kind_of
shift_turns inverse (step.Helmert h) e = refl
shift_turns inverse (step.Badekas r) e = refl
shift_turns inverse (step.Cart r) e = no_shift 2 (λ k. omega arith) (λ k. omega arith) e
shift_turns inverse (step.Molodensky r) e = no_shift 3 (λ k. omega arith) (λ k. omega arith) e
shift_turns inverse (step.Permtide r) e = no_shift 4 (λ k. omega arith) (λ k. omega arith) e
shift_turns inverse (step.Deformation r) e = no_shift 5 (λ k. omega arith) (λ k. omega arith) e

shift_start : (st : Step) → Shifts (kind_of st) → state_of st ≡ start_of (step_shift_of st)
unfolding kind_of
shift_start (step.Helmert h) e = refl
shift_start (step.Badekas r) e = refl
shift_start (step.Cart r) e = no_shift 2 (λ k. omega arith) (λ k. omega arith) e
shift_start (step.Molodensky r) e = no_shift 3 (λ k. omega arith) (λ k. omega arith) e
shift_start (step.Permtide r) e = no_shift 4 (λ k. omega arith) (λ k. omega arith) e
shift_start (step.Deformation r) e = no_shift 5 (λ k. omega arith) (λ k. omega arith) e

-- the ten-parameter step is static
ten_is_still : (st : Step) → kind_of st ≡ 6 → Still (step_shift_of st)
unfolding kind_of
ten_is_still (step.Badekas r) e = inl (shift_not_dynamic r)
ten_is_still (step.Helmert h) e = absurd (omega arith)
ten_is_still (step.Cart r) e = absurd (omega arith)
ten_is_still (step.Molodensky r) e = absurd (omega arith)
ten_is_still (step.Permtide r) e = absurd (omega arith)
ten_is_still (step.Deformation r) e = absurd (omega arith)

-- which of the two kinds a test found
by_tests : (kind : ℕ) (one six : Bool) → eqb kind 1 ≡ one → eqb kind 6 ≡ six → one || six ≡ true → Shifts kind
by_tests kind true six e1 e6 h = inl (eqb-true kind 1 e1)
by_tests kind false true e1 e6 h = inr (eqb-true kind 6 e6)
by_tests kind false false e1 e6 h = absurd (true≢false (sym h))

-- one step of these kinds does not deform
shifts_alone : (kind : ℕ → ℕ) → Shifts (kind 0) → has_deformation kind 1 ≡ false
unfolding has_deformation
shifts_alone kind (inl e) = rw e
shifts_alone kind (inr e) = rw e

module _ (s : List ℕ) (own : (refusal_of s).number ≡ 0) (one : refusal12 s ≡ false) where
  one-step : step_count_of s ≡ 1
  unfolding refusal12
  one-step = eqb-true _ _ (not-false _ (neither (not (eqb (step_count_of s) 1)) (not (eqb (kind_at s 0) 1 || eqb (kind_at s 0) 6)) one).0)

  of-a-kind : Shifts (kind_at s 0)
  unfolding refusal12
  of-a-kind =
      by_tests (kind_at s 0) (eqb (kind_at s 0) 1) (eqb (kind_at s 0) 6) refl refl
      (not-false _ (neither (not (eqb (step_count_of s) 1)) (not (eqb (kind_at s 0) 1 || eqb (kind_at s 0) 6)) one).1)

  entry-is : entry_at s 0 ≡ record { inverted = inverted_at s 0; step = step_at s 0 }
  unfolding entry_at
  entry-is = rw (lt-ltb 0 (step_count_of s) (omega (arith, one-step)))

  its-kind : kind_of (entry_at s 0).step ≡ kind_at s 0
  its-kind =
      let ok = accepted-keeps s own in
      ap (λ (e : Entry). kind_of e.step) entry-is
      ∙ kind_after_read (kind_at s 0) (body_at s 0) (body_kept s 0 (ok.steps 0 (omega (arith, one-step))).kept5)

  a-shift : Shifts (kind_of (entry_at s 0).step)
  a-shift = rw its-kind of-a-kind

  no-deformation : has_deformation (kind_at s) (step_count_of s) ≡ false
  no-deformation = rw one-step (shifts_alone (kind_at s) of-a-kind)

  entries-are : entries_of (entry_at s) (step_count_of s) 0 ≡ entry_at s 0 ∷ []
  unfolding entries_of
  entries-are = rw one-step

  step-list : (inverse : Bool) (l : List Float) → step_list_of inverse (lent_of [] [] []) (entry_at s 0) l ≡ ran_of (helmert_turns (reversed_in inverse s) (shift_in s)) 0 (start_of (shift_in s)) l
  unfolding step_list_of
  step-list inverse l =
      rw (shift_turns (reversed_of inverse (entry_at s 0)) (entry_at s 0).step a-shift, shift_start (entry_at s 0).step a-shift)

  chain-list : (inverse : Bool) (l : List Float)
      → (chain_of inverse (lent_of [] [] []) (entries_of (entry_at s) (step_count_of s) 0) l).list ≡ ran_of (helmert_turns (reversed_in inverse s) (shift_in s)) 0 (start_of (shift_in s)) l
  chain-list true l = rw entries-are (ap (λ (r : Run). r.list) (one-step-inverse (lent_of [] [] []) (entry_at s 0) l) ∙ step-list true l)
  chain-list false l = rw entries-are (ap (λ (r : Run). r.list) (one-step-forward (lent_of [] [] []) (entry_at s 0) l) ∙ step-list false l)

-- ---- a fresh run

-- lists of the same lengths are refused alike
by_lengths : (s : List ℕ) (a b : Kept) → length a.list ≡ length b.list → length a.results ≡ length b.results → length a.track ≡ length b.track
    → keep_refusal_of s a ≡ keep_refusal_of s b
unfolding keep_refusal_of
by_lengths s a b el er et = rw (el, er, et)

-- taken or refused, the list stays as it is
pub keep_leaves_the_list : (inverse : Bool) (s : List ℕ) (old : Kept) → (keep_of inverse s old).list ≡ old.list
unfolding keep_of
keep_leaves_the_list inverse s old = by-case (eqb (keep_refusal_of s old).number 0)
  where
    by-case : (b : Bool) → (cond b (fresh_of (shift_in s) (reversed_in inverse s) old.list) old).list ≡ old.list
    by-case true = fresh_list (shift_in s) (reversed_in inverse s) old.list
    by-case false = refl

module _ (inverse : Bool) (s : List ℕ) (old : Kept) (passes : (keep_refusal_of s old).number ≡ 0) where
  abbrev kept : Kept
  kept = keep_of inverse s old

  pub keep-runs : kept ≡ fresh_of (shift_in s) (reversed_in inverse s) old.list
  keep-runs = sym (keep-done inverse s old passes refl)

  lists-pass : Passed s (length old.list) (length old.results) (length old.track)
  unfolding keep_refusal_of
  lists-pass = passed _ _ _ _ passes

  -- The results of a fresh run are the chain's, on the same sheet, direction and list: `shift`
  -- takes them too, and leaves that list.
  pub results-are-the-chains : kept.results ≡ (chain_of inverse (lent_of [] [] []) (entries_of (entry_at s) (step_count_of s) 0) old.list).list
  unfolding fresh_of
  results-are-the-chains =
      ap (λ (k : Kept). k.results) keep-runs ∙ sym (chain-list s lists-pass.own lists-pass.one_shift inverse old.list)

  pub shift-takes-them-too : shift_of inverse s old.list [] [] ≡ ran_outcome (chain_of inverse (lent_of [] [] []) (entries_of (entry_at s) (step_count_of s) 0) old.list)
  unfolding shift_of refusal10 over_one
  shift-takes-them-too =
      run-through (refusal_of s) (has_deformation (kind_at s) (step_count_of s)) inverse (entries_of (entry_at s) (step_count_of s) 0) old.list [] []
      lists-pass.own lists-pass.list-kept nothing_lent
    where
      nothing_lent : refusal10 (has_deformation (kind_at s) (step_count_of s)) (length old.list) [] [] ≡ false
      nothing_lent = rw (no-deformation s lists-pass.own lists-pass.one_shift)

  pub results-are-the-shifts : kept.results ≡ (shift_of inverse s old.list [] []).list
  results-are-the-shifts = rw shift-takes-them-too results-are-the-chains

  -- the track holds, after each fix, the state that the run carries there
  pub track-is-the-state : (j : ℕ) → 4 * j + 4 ≤ length old.list
      → kept_at kept.track j ≡ state_after_of (helmert_turns (reversed_in inverse s) (shift_in s)) 0 (start_of (shift_in s)) (take (4 * suc j) old.list)
  unfolding fresh_of
  track-is-the-state j h =
      rw keep-runs (ap held_of (track_at tracked_of (helmert_turns (reversed_in inverse s) (shift_in s)) 0 (start_of (shift_in s)) old.list j h))

  -- ---- what a fresh run leaves passes as it did

  kept-list-long : length kept.list ≡ length old.list
  kept-list-long = ap length (keep_leaves_the_list inverse s old)

  kept-results-long : length kept.results ≡ length old.results
  unfolding fresh_of
  kept-results-long =
      ap (λ (k : Kept). length k.results) keep-runs
      ∙ ran_length (helmert_turns (reversed_in inverse s) (shift_in s)) 0 (start_of (shift_in s)) old.list
      ∙ sym lists-pass.long-results

  kept-track-long : length kept.track ≡ length old.track
  unfolding fresh_of
  kept-track-long =
      ap (λ (k : Kept). length k.track) keep-runs
      ∙ track_length (helmert_turns (reversed_in inverse s) (shift_in s)) 0 (start_of (shift_in s)) old.list
      ∙ sym lists-pass.long-track

  pub kept-passes : (keep_refusal_of s kept).number ≡ 0
  kept-passes = ap (λ (r : Refusal). r.number) (by_lengths s kept old kept-list-long kept-results-long kept-track-long) ∙ passes

-- ---- a correction of a kept run

put_keeps_length : (l : List Float) (at : ℕ) (v : Tuple) → length (put_at l at v) ≡ length l
put_keeps_length l at v = either (leb (at + 4) (length l)) refl
  where
    either : (b : Bool) → leb (at + 4) (length l) ≡ b → length (put_at l at v) ≡ length l
    either true e = put-length l at v (leb-true _ _ e)
    either false e = ap length (put_none l at v (leb-false _ _ e))

put_head : (l : List Float) (at : ℕ) (v : Tuple) → at + 4 ≤ length l → take at (put_at l at v) ≡ take at l
put_head l at v h =
    sym (take-take at (at + 4) (put_at l at v) (omega arith))
    ∙ ap (take at) (put-take l at v h)
    ∙ take_at (take at l) (numbers_of v) at (length-take-le at l (omega arith))

module _ (inverse : Bool) (s : List ℕ) (old : Kept) (passes : (keep_refusal_of s old).number ≡ 0) (index : ℕ) (fix : Tuple) where
  -- what was kept, and what a fresh run of the corrected list keeps
  abbrev was : Kept
  was = keep_of inverse s old

  abbrev shall-be : Kept
  shall-be = keep_of inverse s (put_fix old index fix)

  pub corrected-passes : (keep_refusal_of s (put_fix old index fix)).number ≡ 0
  corrected-passes =
      ap (λ (r : Refusal). r.number) (by_lengths s (put_fix old index fix) old (put_keeps_length old.list (4 * index) fix) refl refl) ∙ passes

  long : length was.list ≡ length old.list
  long = kept-list-long inverse s old passes

  -- where no fix stands at the index
  nowhere : refusal14 (length was.list) index ≡ true → (correct_of inverse s was index fix).kept ≡ shall-be
  unfolding refusal14
  nowhere e =
      let none : length was.list / 4 ≤ index = ltb-false index (length was.list / 4) (not-true _ e) in
      let short : length old.list < 4 * index + 4 = omega (arith, long) in
      let same : put_at old.list (4 * index) fix ≡ old.list = put_none old.list (4 * index) fix short in
      ap (λ (o : CorrectOutcome). o.kept) (sym (correct-refused-14 inverse s was index fix (kept-passes inverse s old passes) e))
      ∙ ap (λ (l : List Float). keep_of inverse s (record { list = l; results = old.results; track = old.track })) (sym same)

  there : refusal14 (length was.list) index ≡ false → (correct_of inverse s was index fix).kept ≡ shall-be
  there e =
      let shift = shift_in s in
      let reversed = reversed_in inverse s in
      ap (λ (o : CorrectOutcome). o.kept) (sym (correct-done inverse s was index fix refl (kept-passes inverse s old passes) e refl))
      ∙ ap (λ (k : Kept). (corrected_of shift reversed k index fix).kept) (keep-runs inverse s old passes)
      ∙ corrected-equals-fresh shift reversed old.list index fix
      ∙ sym (keep-runs inverse s (put_fix old index fix) corrected-passes)

  by_index : (b : Bool) → refusal14 (length was.list) index ≡ b → (correct_of inverse s was index fix).kept ≡ shall-be
  by_index true e = nowhere e
  by_index false e = there e

  -- Demand 3: if list, results and track came from a fresh run, then after a correction they equal
  -- a fresh run of the corrected list, same sheet and direction.
  pub corrected-is-kept-afresh : (correct_of inverse s was index fix).kept ≡ shall-be
  corrected-is-kept-afresh = by_index (refusal14 (length was.list) index) refl

  -- and the list is the corrected list
  pub corrected-list : (correct_of inverse s was index fix).kept.list ≡ put_at old.list (4 * index) fix
  corrected-list = ap (λ (k : Kept). k.list) corrected-is-kept-afresh ∙ keep_leaves_the_list inverse s (put_fix old index fix)

-- ---- any corrections, one after another

-- A kept run equals a fresh run of the list as it stands.
pub kept_equals_fresh_always : (inverse : Bool) (s : List ℕ) (old : Kept) → (keep_refusal_of s old).number ≡ 0 → (corrections : List Correction)
    → kept_after_of inverse s (keep_of inverse s old) corrections ≡ keep_of inverse s (stands_after_of old corrections)
kept_equals_fresh_always inverse s old passes [] = refl
kept_equals_fresh_always inverse s old passes (c ∷ later) =
    ap (λ (k : Kept). kept_after_of inverse s k later) (corrected-is-kept-afresh inverse s old passes c.index c.fix)
    ∙ kept_equals_fresh_always inverse s (put_fix old c.index c.fix) (corrected-passes inverse s old passes c.index c.fix) later

-- ---- the stretch, whatever the three lists held

module _ (inverse : Bool) (s : List ℕ) (old : Kept) (index : ℕ) (fix : Tuple) where
  abbrev shift : Shift
  shift = shift_in s

  abbrev reversed : Bool
  reversed = reversed_in inverse s

  abbrev redone : ℕ
  redone = (correct_of inverse s old index fix).answer.redone

  abbrev left : Kept
  left = (correct_of inverse s old index fix).kept

  -- refused: the count is zero, and list, results and track are unaltered
  pub refused-alters-nothing : ((correct_refusal_of s old index).number ≡ 0 → ⊥) → correct_of inverse s old index fix ≡ outcome (corrected_as (correct_refusal_of s old index) 0) old
  unfolding correct_of
  refused-alters-nothing h = rw (ne_eqb _ _ h)

  done : (correct_refusal_of s old index).number ≡ 0
      → (redone ≡ (corrected_of shift reversed old index fix).count) × (left ≡ (corrected_of shift reversed old index fix).kept)
  done e =
      let t = taken inverse s old index fix e in
      let d = correct-done inverse s old index fix refl t.0 t.1 refl in
      (ap (λ (o : CorrectOutcome). o.answer.redone) (sym d), ap (λ (o : CorrectOutcome). o.kept) (sym d))

  -- a fix stands at the index, and the three lists are as long as each other
  at_index : (correct_refusal_of s old index).number ≡ 0
      → (4 * index + 4 ≤ length old.list) × (length old.results ≡ length old.list) × (length old.track ≡ length old.list)
  unfolding keep_refusal_of
  at_index e =
      let t = taken inverse s old index fix e in
      let p = passed _ _ _ _ t.0 in
      let i = below _ _ t.1 in
      (omega arith, p.long-results, p.long-track)

  -- The count is the stretch's length: from the index up to the first fix after which the carried
  -- state equals the kept one, else to the list's end.
  pub count-is-the-stretch : (correct_refusal_of s old index).number ≡ 0
      → Stretch (carried_at (helmert_turns reversed shift) index (before_of shift old.track index) (put_at old.list (4 * index) fix)) (kept_at old.track)
      index (length old.list / 4) redone
  count-is-the-stretch e = rw (done e).0 (redone_is_the_stretch shift reversed old index fix (at_index e).0)

  -- Nothing outside the stretch is written, in results and track; and nothing of the list but the
  -- fix.
  by-refusal : (P : ℕ → Kept → Type 0) → P 0 old
      → ((4 * index + 4 ≤ length old.list) × (length old.results ≡ length old.list) × (length old.track ≡ length old.list)
      → P (corrected_of shift reversed old index fix).count (corrected_of shift reversed old index fix).kept)
      → P redone left
  by-refusal P none some = by-case (eqb (correct_refusal_of s old index).number 0) refl
    where
      by-case : (b : Bool) → eqb (correct_refusal_of s old index).number 0 ≡ b → P redone left
      by-case true d =
          let e : (correct_refusal_of s old index).number ≡ 0 = eqb-true _ _ d in
          subst (λ (n : ℕ). P n left) (sym (done e).0) (subst (λ (k : Kept). P (corrected_of shift reversed old index fix).count k) (sym (done e).1) (some (at_index e)))
      by-case false d =
          let e = refused-alters-nothing (eqb-false _ _ d) in
          subst (λ (o : CorrectOutcome). P o.answer.redone o.kept) (sym e) none

  as_it_was : (l : List Float) (start end : ℕ) → Unwritten l l start end
  as_it_was l start end = record { before = refl; after = refl; long = refl }

  pub results-unwritten : Unwritten old.results left.results (4 * index) (4 * index + 4 * redone)
  results-unwritten =
      by-refusal (λ (n : ℕ) (k : Kept). Unwritten old.results k.results (4 * index) (4 * index + 4 * n)) (as_it_was _ _ _)
      (λ h. results-outside shift reversed old index fix h.0 h.1 h.2)

  pub track-unwritten : Unwritten old.track left.track (4 * index) (4 * index + 4 * redone)
  track-unwritten =
      by-refusal (λ (n : ℕ) (k : Kept). Unwritten old.track k.track (4 * index) (4 * index + 4 * n)) (as_it_was _ _ _)
      (λ h. track-outside shift reversed old index fix h.0 h.1 h.2)

  pub list-unwritten : Unwritten old.list left.list (4 * index) (4 * index + 4)
  list-unwritten =
      by-refusal (λ (n : ℕ) (k : Kept). Unwritten old.list k.list (4 * index) (4 * index + 4)) (as_it_was _ _ _)
      (λ h. list-outside shift reversed old index fix h.0 h.1 h.2)

-- ---- the stretch of a kept run, by its tracks

-- a stretch goes by the states at its fixes alone
same_states : {carried other kept : ℕ → State} {index count n : ℕ} → ((j : ℕ) → index ≤ j → j < count → carried j ≡ other j)
    → Stretch carried kept index count n → Stretch other kept index count n
same_states {index = index} {count = count} {n = n} same a =
    record {
      some = a.some;
      within = a.within;
      apart = λ j lo hi e. a.apart j lo hi (same j lo (omega (arith, a.within)) ∙ e);
      ends =
          ⊎_elim (λ e. inl (sym (same (index + n - 1) (omega (arith, a.some)) (omega (arith, a.some, a.within))) ∙ e)) inr a.ends;
    }

module _ (inverse : Bool) (s : List ℕ) (old : Kept) (passes : (keep_refusal_of s old).number ≡ 0) (index : ℕ) (fix : Tuple) (h : index < length old.list / 4) where
  abbrev f : Turns State
  f = helmert_turns (reversed_in inverse s) (shift_in s)

  abbrev start : State
  start = start_of (shift_in s)

  abbrev at : ℕ
  at = 4 * index

  abbrev kept-before : Kept
  kept-before = keep_of inverse s old

  abbrev kept-afresh : Kept
  kept-afresh = keep_of inverse s (put_fix old index fix)

  there-is-a-fix : at + 4 ≤ length old.list
  there-is-a-fix = omega arith

  now-long : length (put_at old.list at fix) ≡ length old.list
  now-long = put_keeps_length old.list at fix

  list-is : kept-before.list ≡ old.list
  list-is = keep_leaves_the_list inverse s old

  -- redoing starts from the state that the fresh run of the corrected list carries to the index
  starts-there : before_of (shift_in s) kept-before.track index ≡ state_after_of f 0 start (take at (put_at old.list at fix))
  starts-there =
      ap (λ (k : Kept). before_of (shift_in s) k.track index) (keep-runs inverse s old passes)
      ∙ before-is (shift_in s) (reversed_in inverse s) old.list index (omega arith)
      ∙ ap (state_after_of f 0 start) (sym (put_head old.list at fix there-is-a-fix))

  -- the state carried after a fix is the one that the track of that run holds
  carried-is-tracked : (j : ℕ) → index ≤ j → j < length old.list / 4
      → carried_at f index (before_of (shift_in s) kept-before.track index) (put_at old.list at fix) j ≡ kept_at kept-afresh.track j
  carried-is-tracked j lo hi =
      let new = put_at old.list at fix in
      let m = 4 * (suc j - index) in
      let e : at + m ≡ 4 * suc j = omega arith in
      ap (λ (state : State). carried_at f index state new j) starts-there
      ∙ sym (rw (add-zero index) at (state_append f 0 start (whole_take index new (rw now-long (omega arith))) (take m (drop at new))))
      ∙ ap (state_after_of f 0 start) (sym (take-add at m new))
      ∙ ap (λ (n : ℕ). state_after_of f 0 start (take n new)) e
      ∙ sym (track-is-the-state inverse s (put_fix old index fix) (corrected-passes inverse s old passes index fix) j (rw now-long (omega arith)))

  -- a correction of a kept run is refused by nothing
  pub nothing-refuses : (correct_refusal_of s kept-before index).number ≡ 0
  nothing-refuses = not-refused inverse s kept-before index fix (kept-passes inverse s old passes) (rw list-is (lt-ltb _ _ h))

  -- Of a kept run the count is the number of fixes from the index up to the first after which the
  -- fresh run's track of the corrected list equals the kept one.
  pub count-by-the-tracks : Stretch (kept_at kept-afresh.track) (kept_at kept-before.track) index (length old.list / 4)
      (correct_of inverse s kept-before index fix).answer.redone
  count-by-the-tracks =
      same_states carried-is-tracked
      (subst
      (λ (l : List Float).
      Stretch (carried_at f index (before_of (shift_in s) kept-before.track index) (put_at l at fix)) (kept_at kept-before.track) index (length l / 4)
      (correct_of inverse s kept-before index fix).answer.redone)
      list-is
      (count-is-the-stretch inverse s kept-before index fix nothing-refuses))

-- ---- static, fixed and own-epoch

pub still_is_not_running : (shift : Shift) → Still shift → is_running_of shift ≡ false
still_is_not_running shift = by_mode shift.dynamic shift.fixed shift.own_epoch
  where
    by_mode : (dynamic fixed own : Bool) → (dynamic ≡ false) ⊎ (fixed ≡ true) ⊎ (own ≡ true) → (dynamic && not fixed) && not own ≡ false
    by_mode false fixed own m = refl
    by_mode true true own m = refl
    by_mode true false true m = refl
    by_mode true false false (inl e) = e
    by_mode true false false (inr (inl e)) = sym e
    by_mode true false false (inr (inr e)) = sym e

module _ (inverse : Bool) (s : List ℕ) (old : Kept) (passes : (keep_refusal_of s old).number ≡ 0) (still : Still (shift_in s)) where
  -- they track (NaN, T) throughout, T as moved by t_obs
  pub still-tracks-T : (j : ℕ) → j < length old.list / 4 → kept_at (keep_of inverse s old).track j ≡ record { last = nan; t = (shift_in s).parameters.t }
  unfolding start_of
  still-tracks-T j h =
      ap (λ (k : Kept). kept_at k.track j) (keep-runs inverse s old passes)
      ∙ still-track (shift_in s) (reversed_in inverse s) old.list (still_is_not_running (shift_in s) still) j (omega arith)

  -- there a fix's result depends on that fix and the sheet alone
  pub still-result : (j : ℕ) → j < length old.list / 4
      → tuple_at (keep_of inverse s old).results (4 * j) ≡ (step_of (shift_in s) (reversed_in inverse s) (start_of (shift_in s)) (tuple_at old.list (4 * j))).tuple
  unfolding fresh_of
  still-result j h =
      let f = helmert_turns (reversed_in inverse s) (shift_in s) in
      let stays = step_stays (shift_in s) (reversed_in inverse s) (still_is_not_running (shift_in s) still) in
      ap (λ (k : Kept). tuple_at k.results (4 * j)) (keep-runs inverse s old passes)
      ∙ result_at f 0 (start_of (shift_in s)) old.list j (omega arith)
      ∙ ap (λ (state : State). (step_of (shift_in s) (reversed_in inverse s) state (tuple_at old.list (4 * j))).tuple) (state_stays f stays 0 (start_of (shift_in s)) (take (4 * j) old.list))

  -- and a correction of a kept run redoes one fix
  pub still-count-is-one : (index : ℕ) (fix : Tuple) → index < length old.list / 4 → (correct_of inverse s (keep_of inverse s old) index fix).answer.redone ≡ 1
  still-count-is-one index fix h =
      (done inverse s (keep_of inverse s old) index fix (nothing-refuses inverse s old passes index fix h)).0
      ∙ ap (λ (k : Kept). (corrected_of (shift_in s) (reversed_in inverse s) k index fix).count) (keep-runs inverse s old passes)
      ∙ still-redoes-one (shift_in s) (reversed_in inverse s) old.list (still_is_not_running (shift_in s) still) index fix (omega arith)

-- also after any corrections: a time that goes missing, and comes back, is one fix redone each time
pub still_count_is_one_always : (inverse : Bool) (s : List ℕ) (old : Kept) → (keep_refusal_of s old).number ≡ 0 → Still (shift_in s) → (corrections : List Correction)
    (index : ℕ) (fix : Tuple) → index < length old.list / 4
    → (correct_of inverse s (kept_after_of inverse s (keep_of inverse s old) corrections) index fix).answer.redone ≡ 1
still_count_is_one_always inverse s old passes still [] index fix h = still-count-is-one inverse s old passes still index fix h
still_count_is_one_always inverse s old passes still (c ∷ later) index fix h =
    ap (λ (k : Kept). (correct_of inverse s (kept_after_of inverse s k later) index fix).answer.redone) (corrected-is-kept-afresh inverse s old passes c.index c.fix)
    ∙ still_count_is_one_always inverse s (put_fix old c.index c.fix) (corrected-passes inverse s old passes c.index c.fix) still later index fix
    (rw (put_keeps_length old.list (4 * c.index) c.fix) h)

-- A ten-parameter step is static: under a sheet of one such step a correction redoes one fix.
pub ten_parameters_count_is_one : (inverse : Bool) (s : List ℕ) (old : Kept) → (keep_refusal_of s old).number ≡ 0 → kind_at s 0 ≡ 6 → (corrections : List Correction)
    (index : ℕ) (fix : Tuple) → index < length old.list / 4
    → (correct_of inverse s (kept_after_of inverse s (keep_of inverse s old) corrections) index fix).answer.redone ≡ 1
ten_parameters_count_is_one inverse s old passes six corrections index fix h =
    let p = lists-pass inverse s old passes in
    still_count_is_one_always inverse s old passes (ten_is_still (entry_at s 0).step (its-kind s p.own p.one_shift ∙ six)) corrections index fix h
