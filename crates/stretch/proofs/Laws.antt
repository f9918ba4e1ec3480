-- What holds of a kept run and its correction. Assumes nothing.
use Prim.Native.Nat.{ℕ, zero, suc, ◌+◌, ◌-◌, ◌*◌, ◌/◌, ◌≤◌, ◌<◌}
use native.Mathlib.Omega.{arith}
use native.Mathlib.Nat.{add-zero}
use mathlib.Core.Bool.{Bool, true, false}
use mathlib.Core.Logic.{inl}
use mathlib.Core.Path.{◌≡◌, refl, sym, ap, ◌∙◌}
use mathlib.Core.List.{List, ◌++◌, append_assoc}
use lib.Dec.{leb}
use lib.ListN.{length, take, drop, length-drop, take-append-drop}
use lib.Seq.{take_at, drop_at, length-take-le, drop-paste, length-paste}
use lib.Ieee.{Float}
use borrow.Author.Tests.{leb-true, leb-false}
use Rattle.tuple.specs.declared.Tuple.{Tuple}
use Rattle.helmert.specs.declared.Shift.{Shift}
use Rattle.helmert.specs.declared.State.{State}
use Rattle.helmert.specs.Modes.{start_of, is_running_of, step_of}
use Rattle.lists.specs.Flat.{numbers_of, tuple_at, put_at}
use Rattle.lists.specs.Run.{Turns, ran_of, track_of, state_after_of}
use Rattle.lists.proofs.Places.{from_place, put-there, put_none, put-length, put-drop}
use Rattle.lists.proofs.Laws.{ran_length}
use Rattle.lists.proofs.Results.{track_at}
use Rattle.stretch.specs.Kept.{tracked_of, held_of, Kept, kept_of, fresh_of, spliced_of, carried_at, kept_at, Stretch, Redone, redo_of, before_of, put_fix, corrected_of}
use Rattle.stretch.specs.Unwritten.{Unwritten}
use Rattle.helmert.specs.Turns.{helmert_turns}
use Rattle.stretch.proofs.Again.{Again, again_of, again-short}
use Rattle.stretch.proofs.Stretch.{redo_is_again}
use Rattle.stretch.proofs.Meeting.{state_stays, Renewed, again_first, whole_take, ran_append, track_append, track_length}
use Rattle.stretch.proofs.Words.{stretch-by-states, stretch_is_unique}
use Rattle.stretch.proofs.Start.{before-first, before_running, before_else}

-- ---- the state before an index

-- a static, fixed or own-epoch step hands its state on as it is
pub step_stays : (shift : Shift) (inverse : Bool) → is_running_of shift ≡ false
    → (k : ℕ) (state : State) (v : Tuple) → (helmert_turns inverse shift k state v).state ≡ state
unfolding step_of
step_stays shift inverse e k state v = rw e

-- a fresh run keeps the list as it is
pub fresh_list : (shift : Shift) (inverse : Bool) (l : List Float) → (fresh_of shift inverse l).list ≡ l
unfolding fresh_of
fresh_list shift inverse l = refl

-- of a fresh run, redoing starts from the state that the run carried there
module _ (shift : Shift) (inverse : Bool) (l : List Float) where
  abbrev carried : ℕ → State
  carried index = state_after_of (helmert_turns inverse shift) 0 (start_of shift) (take (4 * index) l)

  before-else-is : (index : ℕ) → is_running_of shift ≡ false → before_of shift (fresh_of shift inverse l).track index ≡ carried index
  before-else-is index e =
      before_else shift (fresh_of shift inverse l).track index e
      ∙ sym (state_stays (helmert_turns inverse shift) (step_stays shift inverse e) 0 (start_of shift) (take (4 * index) l))

  before-running-is : (index : ℕ) → 4 * index ≤ length l → is_running_of shift ≡ true → before_of shift (fresh_of shift inverse l).track index ≡ carried index
  unfolding fresh_of
  before-running-is zero h e = before-first shift (fresh_of shift inverse l).track 0 refl
  before-running-is (suc k) h e =
      let d : suc k - 1 ≡ k = omega arith in
      before_running shift (fresh_of shift inverse l).track (suc k) (λ z. omega arith) e
      ∙ ap (λ (j : ℕ). held_of (tuple_at (fresh_of shift inverse l).track (4 * j))) d
      ∙ ap held_of (track_at tracked_of (helmert_turns inverse shift) 0 (start_of shift) l k (omega arith))

  by_mode : (running : Bool) → is_running_of shift ≡ running → (index : ℕ) → 4 * index ≤ length l → before_of shift (fresh_of shift inverse l).track index ≡ carried index
  by_mode true e index h = before-running-is index h e
  by_mode false e index h = before-else-is index e

  pub before-is : (index : ℕ) → 4 * index ≤ length l → before_of shift (fresh_of shift inverse l).track index ≡ carried index
  before-is = by_mode (is_running_of shift) refl

-- ---- a corrected run is a fresh one

-- for any step: redoing from the state that the run carried, over what the run left, makes the run
-- of the list with the fix in it
module _ (f : Turns State) (start : State) (l : List Float) (index : ℕ) (fix : Tuple) (h : 4 * index + 4 ≤ length l) where
  abbrev at : ℕ
  at = 4 * index

  abbrev state-there : State
  state-there = state_after_of f 0 start (take at l)

  abbrev old-rest : List Float
  old-rest = numbers_of (tuple_at l at) ++ drop (at + 4) l

  abbrev new-rest : List Float
  new-rest = numbers_of fix ++ drop (at + 4) l

  head-long : length (take at l) ≡ at
  head-long = length-take-le at l (omega arith)

  was : l ≡ take at l ++ old-rest
  was = sym (take-append-drop at l) ∙ ap (λ (r : List Float). take at l ++ r) (from_place l at h)

  is : put_at l at fix ≡ take at l ++ new-rest
  is = put-there l at fix h ∙ append_assoc (take at l) (numbers_of fix) (drop (at + 4) l)

  results-split : (rest : List Float) → ran_of f 0 start (take at l ++ rest) ≡ ran_of f 0 start (take at l) ++ ran_of f index state-there rest
  results-split rest = rw (add-zero index) at (ran_append f 0 start (whole_take index l (omega arith)) rest)

  track-split : (rest : List Float) → track_of tracked_of f 0 start (take at l ++ rest) ≡ track_of tracked_of f 0 start (take at l) ++ track_of tracked_of f index state-there rest
  track-split rest = rw (add-zero index) at (track_append f 0 start (whole_take index l (omega arith)) rest)

  abbrev old-results : List Float
  old-results = ran_of f 0 start l

  abbrev old-track : List Float
  old-track = track_of tracked_of f 0 start l

  results-were : old-results ≡ ran_of f 0 start (take at l) ++ ran_of f index state-there old-rest
  results-were = ap (ran_of f 0 start) was ∙ results-split old-rest

  track-was : old-track ≡ track_of tracked_of f 0 start (take at l) ++ track_of tracked_of f index state-there old-rest
  track-was = ap (track_of tracked_of f 0 start) was ∙ track-split old-rest

  results-head : length (ran_of f 0 start (take at l)) ≡ at
  results-head = ran_length f 0 start (take at l) ∙ head-long

  track-head : length (track_of tracked_of f 0 start (take at l)) ≡ at
  track-head = track_length f 0 start (take at l) ∙ head-long

  list-from : drop at (put_at l at fix) ≡ new-rest
  list-from = ap (drop at) is ∙ drop_at (take at l) new-rest at head-long

  results-from : drop at old-results ≡ ran_of f index state-there old-rest
  results-from = ap (drop at) results-were ∙ drop_at (ran_of f 0 start (take at l)) (ran_of f index state-there old-rest) at results-head

  track-from : drop at old-track ≡ track_of tracked_of f index state-there old-rest
  track-from = ap (drop at) track-was ∙ drop_at (track_of tracked_of f 0 start (take at l)) (track_of tracked_of f index state-there old-rest) at track-head

  results-to : take at old-results ≡ ran_of f 0 start (take at l)
  results-to = ap (take at) results-were ∙ take_at (ran_of f 0 start (take at l)) (ran_of f index state-there old-rest) at results-head

  track-to : take at old-track ≡ track_of tracked_of f 0 start (take at l)
  track-to = ap (take at) track-was ∙ take_at (track_of tracked_of f 0 start (take at l)) (track_of tracked_of f index state-there old-rest) at track-head

  abbrev redoing : Again
  redoing = again_of f index state-there (drop at (put_at l at fix)) (drop at old-results) (drop at old-track)

  redoing-is : redoing ≡ again_of f index state-there new-rest (ran_of f index state-there old-rest) (track_of tracked_of f index state-there old-rest)
  redoing-is =
      ap (λ (a : List Float). again_of f index state-there a (drop at old-results) (drop at old-track)) list-from
      ∙ ap (λ (a : List Float). again_of f index state-there new-rest a (drop at old-track)) results-from
      ∙ ap (λ (a : List Float). again_of f index state-there new-rest (ran_of f index state-there old-rest) a) track-from

  renewed : Renewed (again_of f index state-there new-rest (ran_of f index state-there old-rest) (track_of tracked_of f index state-there old-rest)) f index state-there new-rest
  renewed = again_first f index state-there state-there fix (tuple_at l at) (drop (at + 4) l)

  results-renewed : take at old-results ++ redoing.results ≡ ran_of f 0 start (put_at l at fix)
  results-renewed =
      ap (λ (a : List Float). a ++ redoing.results) results-to
      ∙ ap (λ (a : List Float). ran_of f 0 start (take at l) ++ a) (ap (λ (d : Again). d.results) redoing-is ∙ renewed.results-are)
      ∙ sym (ap (ran_of f 0 start) is ∙ results-split new-rest)

  track-renewed : take at old-track ++ redoing.track ≡ track_of tracked_of f 0 start (put_at l at fix)
  track-renewed =
      ap (λ (a : List Float). a ++ redoing.track) track-to
      ∙ ap (λ (a : List Float). track_of tracked_of f 0 start (take at l) ++ a) (ap (λ (d : Again). d.track) redoing-is ∙ renewed.track-are)
      ∙ sym (ap (track_of tracked_of f 0 start) is ∙ track-split new-rest)

  pub redone-is-run : (redo_of f state-there (kept_of (put_at l at fix) old-results old-track) index).kept
      ≡ kept_of (put_at l at fix) (ran_of f 0 start (put_at l at fix)) (track_of tracked_of f 0 start (put_at l at fix))
  redone-is-run =
      ap (λ (d : Redone). d.kept) (redo_is_again f state-there (put_at l at fix) old-results old-track index)
      ∙ ap (λ (rs : List Float). kept_of (put_at l at fix) rs (take at old-track ++ redoing.track)) results-renewed
      ∙ ap (λ (ts : List Float). kept_of (put_at l at fix) (ran_of f 0 start (put_at l at fix)) ts) track-renewed

-- where no fix stands at the index, nothing is redone
module _ (f : Turns State) (state : State) (old : Kept) (index : ℕ) (h : length old.list < 4 * index + 4) where
  none-redone : (redo_of f state old index).kept ≡ old
  none-redone =
      let at = 4 * index in
      let short : length (drop at old.list) < 4 = simp length-drop (omega arith) in
      let e = again-short f index state (drop at old.list) (drop at old.results) (drop at old.track) short in
      ap (λ (d : Redone). d.kept) (redo_is_again f state old.list old.results old.track index)
      ∙ ap (λ (d : Again). kept_of old.list (take at old.results ++ d.results) (take at old.track ++ d.track)) e
      ∙ ap (λ (rs : List Float). kept_of old.list rs (take at old.track ++ drop at old.track)) (take-append-drop at old.results)
      ∙ ap (λ (ts : List Float). kept_of old.list old.results ts) (take-append-drop at old.track)

-- If results and track came from a fresh run, then after a correction they equal a fresh run of the
-- corrected list: for every sheet's shift, direction, list, index and fix.
module _ (shift : Shift) (inverse : Bool) (l : List Float) (index : ℕ) (fix : Tuple) where
  there : 4 * index + 4 ≤ length l → (corrected_of shift inverse (fresh_of shift inverse l) index fix).kept ≡ fresh_of shift inverse (put_at l (4 * index) fix)
  unfolding corrected_of fresh_of
  there h =
      ap (λ (s : State). (redo_of (helmert_turns inverse shift) s (put_fix (fresh_of shift inverse l) index fix) index).kept) (before-is shift inverse l index (omega arith))
      ∙ redone-is-run (helmert_turns inverse shift) (start_of shift) l index fix h

  nowhere : length l < 4 * index + 4 → (corrected_of shift inverse (fresh_of shift inverse l) index fix).kept ≡ fresh_of shift inverse (put_at l (4 * index) fix)
  unfolding corrected_of fresh_of
  nowhere h =
      let same : put_at l (4 * index) fix ≡ l = put_none l (4 * index) fix h in
      let state = before_of shift (fresh_of shift inverse l).track index in
      ap (λ (k : List Float). (redo_of (helmert_turns inverse shift) state (kept_of k (fresh_of shift inverse l).results (fresh_of shift inverse l).track) index).kept) same
      ∙ none-redone (helmert_turns inverse shift) state (fresh_of shift inverse l) index h
      ∙ ap (fresh_of shift inverse) (sym same)

  either : (b : Bool) → leb (4 * index + 4) (length l) ≡ b → (corrected_of shift inverse (fresh_of shift inverse l) index fix).kept ≡ fresh_of shift inverse (put_at l (4 * index) fix)
  either true e = there (leb-true _ _ e)
  either false e = nowhere (leb-false _ _ e)

  pub corrected-equals-fresh : (corrected_of shift inverse (fresh_of shift inverse l) index fix).kept ≡ fresh_of shift inverse (put_at l (4 * index) fix)
  corrected-equals-fresh = either (leb (4 * index + 4) (length l)) refl

-- ---- the stretch

-- The number of fixes redone is the stretch that the words define, whatever the lists held.
pub redone_is_the_stretch : (shift : Shift) (inverse : Bool) (old : Kept) (index : ℕ) (fix : Tuple) → 4 * index + 4 ≤ length old.list
    → Stretch (carried_at (helmert_turns inverse shift) index (before_of shift old.track index) (put_at old.list (4 * index) fix)) (kept_at old.track)
    index (length old.list / 4) (corrected_of shift inverse old index fix).count
unfolding corrected_of redo_of
redone_is_the_stretch shift inverse old index fix h =
    let at = 4 * index in
    let long : length (put_at old.list at fix) ≡ length old.list = put-length old.list at fix h in
    rw long at (stretch-by-states (helmert_turns inverse shift) (before_of shift old.track index) (put_at old.list at fix) old.track index (rw long h))

written_between : (old new : List Float) (at n : ℕ) → at + n ≤ length old → n ≤ length new → Unwritten old (spliced_of old at new n) at (at + n)
written_between old new at n h k =
    record {
      before =
          ap (take at) (append_assoc (take at old) (take n new) (drop (at + n) old))
          ∙ take_at (take at old) (take n new ++ drop (at + n) old) at (length-take-le at old (omega arith));
      after = drop-paste old at new n (omega arith) k;
      long = length-paste old at new n h k;
    }

-- Nothing outside the stretch is written, in results and track, whatever they held; and nothing of
-- the list but the fix.
module _ (shift : Shift) (inverse : Bool) (old : Kept) (index : ℕ) (fix : Tuple) (h : 4 * index + 4 ≤ length old.list)
    (er : length old.results ≡ length old.list) (et : length old.track ≡ length old.list) where
  abbrev done : Redone
  done = corrected_of shift inverse old index fix

  fits_in : 4 * index + 4 * done.count ≤ length old.list
  fits_in = let s = redone_is_the_stretch shift inverse old index fix h in omega (arith, s.within)

  list-long : length (drop (4 * index) (put_at old.list (4 * index) fix)) ≡ length old.list - 4 * index
  list-long = length-drop (4 * index) (put_at old.list (4 * index) fix) ∙ ap (λ (n : ℕ). n - 4 * index) (put-length old.list (4 * index) fix h)

  pub results-outside : Unwritten old.results done.kept.results (4 * index) (4 * index + 4 * done.count)
  unfolding corrected_of redo_of
  results-outside =
      let f = helmert_turns inverse shift in
      let state = before_of shift old.track index in
      let rest = drop (4 * index) (put_at old.list (4 * index) fix) in
      let k : length (ran_of f index state rest) ≡ length old.list - 4 * index = ran_length f index state rest ∙ list-long in
      written_between old.results (ran_of f index state rest) (4 * index) (4 * done.count) (rw er fits_in) (omega (arith, fits_in, k))

  pub track-outside : Unwritten old.track done.kept.track (4 * index) (4 * index + 4 * done.count)
  unfolding corrected_of redo_of
  track-outside =
      let f = helmert_turns inverse shift in
      let state = before_of shift old.track index in
      let rest = drop (4 * index) (put_at old.list (4 * index) fix) in
      let k : length (track_of tracked_of f index state rest) ≡ length old.list - 4 * index = track_length f index state rest ∙ list-long in
      written_between old.track (track_of tracked_of f index state rest) (4 * index) (4 * done.count) (rw et fits_in) (omega (arith, fits_in, k))

  pub list-outside : Unwritten old.list done.kept.list (4 * index) (4 * index + 4)
  unfolding corrected_of redo_of
  list-outside =
      record {
        before =
            ap (take (4 * index)) (put-there old.list (4 * index) fix h ∙ append_assoc (take (4 * index) old.list) (numbers_of fix) (drop (4 * index + 4) old.list))
            ∙ take_at (take (4 * index) old.list) (numbers_of fix ++ drop (4 * index + 4) old.list) (4 * index) (length-take-le (4 * index) old.list (omega arith));
        after = put-drop old.list (4 * index) fix h;
        long = put-length old.list (4 * index) fix h;
      }

-- ---- static, fixed and own-epoch

module _ (shift : Shift) (inverse : Bool) (l : List Float) (still : is_running_of shift ≡ false) where
  abbrev stays : (k : ℕ) (state : State) (v : Tuple) → (helmert_turns inverse shift k state v).state ≡ state
  stays = step_stays shift inverse still

  -- they track (NaN, T) throughout
  pub still-track : (j : ℕ) → 4 * j + 4 ≤ length l → kept_at (fresh_of shift inverse l).track j ≡ start_of shift
  unfolding fresh_of
  still-track j h =
      ap held_of (track_at tracked_of (helmert_turns inverse shift) 0 (start_of shift) l j h)
      ∙ state_stays (helmert_turns inverse shift) stays 0 (start_of shift) (take (4 * suc j) l)

  -- and a correction redoes one fix
  pub still-redoes-one : (index : ℕ) (fix : Tuple) → 4 * index + 4 ≤ length l → (corrected_of shift inverse (fresh_of shift inverse l) index fix).count ≡ 1
  still-redoes-one index fix h =
      stretch_is_unique (redone_is_the_stretch shift inverse (fresh_of shift inverse l) index fix (rw list-is h))
      (record {
        some = omega arith;
        within = rw list-is (omega arith);
        apart = λ j a b e. omega arith;
        ends =
            inl
            (let d : index + 1 - 1 ≡ index = omega arith in
            rw d
            (state_stays (helmert_turns inverse shift) stays index (before_of shift (fresh_of shift inverse l).track index) (take (4 * (suc index - index)) (drop (4 * index) (put_at (fresh_of shift inverse l).list (4 * index) fix)))
            ∙ before_else shift (fresh_of shift inverse l).track index still
            ∙ sym (still-track index h)));
      })
    where
      list-is : (fresh_of shift inverse l).list ≡ l
      list-is = fresh_list shift inverse l
