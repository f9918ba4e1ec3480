-- A run and a correction, each made in two parts: the results by the step over a list, and the
-- track by the times. From what the parts leave, a fresh run and a redoing as the words define
-- them. Assumes nothing.
use Prim.Native.Nat.{ℕ, suc, ◌+◌, ◌-◌, ◌*◌, ◌%◌, ◌≤◌}
use native.Mathlib.Omega.{arith}
use mathlib.Core.Bool.{Bool}
use mathlib.Core.Path.{◌≡◌, refl, sym, ap, ◌∙◌}
use mathlib.Core.List.{List, [], ◌∷◌, ◌++◌, append_assoc}
use lib.ListN.{length, take, drop, length-drop, take-append-drop}
use lib.Seq.{drop-drop, take_at, length-take-le}
use lib.Ieee.{Float}
use Rattle.tuple.specs.declared.Tuple.{Tuple}
use Rattle.helmert.specs.declared.Shift.{Shift}
use Rattle.helmert.specs.declared.State.{State}
use Rattle.helmert.specs.Modes.{start_of}
use Rattle.helmert.specs.Turns.{helmert_turns}
use Rattle.lists.specs.Flat.{four_of, numbers_of}
use Rattle.lists.specs.Run.{ran_of, track_of, state_after_of}
use Rattle.lists.proofs.Laws.{ran_length}
use Rattle.columns.specs.Columns.{column_of}
use Rattle.stretch.specs.Kept.{tracked_of, kept_of, fresh_of, spliced_of, stretch_of, redone_of, redo_of}
use Rattle.stretch.specs.Track.{tracks_of, retrack_of}
use Rattle.stretch.proofs.Again.{Again}
use Rattle.stretch.proofs.Stretch.{again-spliced}
use Rattle.stretch.proofs.Meeting.{whole_take, ran_append}
use Rattle.stretch.proofs.Track.{track-by-times, retrack-by-times}

-- ---- a fresh run

pub fresh_is : (shift : Shift) (inverse : Bool) (l : List Float) {times rs ts : List Float} → length l % 4 ≡ 0 → times ≡ column_of (λ (v : Tuple). v.t) l
    → rs ≡ ran_of (helmert_turns inverse shift) 0 (start_of shift) l → ts ≡ tracks_of shift (start_of shift) times
    → kept_of l rs ts ≡ fresh_of shift inverse l
unfolding fresh_of
fresh_is shift inverse l {times} {rs} {ts} whole ei er et =
    let e : ts ≡ track_of tracked_of (helmert_turns inverse shift) 0 (start_of shift) l =
    et ∙ ap (tracks_of shift (start_of shift)) ei ∙ track-by-times shift inverse 0 (start_of shift) l whole in
    ap (λ (a : List Float). kept_of l a ts) er ∙ ap (λ (a : List Float). kept_of l (ran_of (helmert_turns inverse shift) 0 (start_of shift) l) a) e

-- ---- a redoing

-- the step does not look at a fix's index
pub ran_anywhere : (shift : Shift) (inverse : Bool) (j k : ℕ) (state : State) (l : List Float) → ran_of (helmert_turns inverse shift) j state l ≡ ran_of (helmert_turns inverse shift) k state l
ran_anywhere shift inverse j k state (x ∷ y ∷ z ∷ t ∷ rest) =
    ap (λ (u : List Float). numbers_of (helmert_turns inverse shift k state (four_of x y z t)).tuple ++ u)
    (ran_anywhere shift inverse (suc j) (suc k) (helmert_turns inverse shift k state (four_of x y z t)).state rest)
ran_anywhere shift inverse j k state (x ∷ y ∷ z ∷ []) = refl
ran_anywhere shift inverse j k state (x ∷ y ∷ []) = refl
ran_anywhere shift inverse j k state (x ∷ []) = refl
ran_anywhere shift inverse j k state [] = refl

-- the first n results are those of the first n fixes
ran_take : (shift : Shift) (inverse : Bool) (k : ℕ) (state : State) (l : List Float) (n : ℕ) → 4 * n ≤ length l
    → ran_of (helmert_turns inverse shift) 0 state (take (4 * n) l) ≡ take (4 * n) (ran_of (helmert_turns inverse shift) k state l)
ran_take shift inverse k state l n h =
    let f = helmert_turns inverse shift in
    let a = take (4 * n) l in
    let long : length (ran_of f k state a) ≡ 4 * n = ran_length f k state a ∙ length-take-le (4 * n) l h in
    ran_anywhere shift inverse 0 k state a
    ∙ sym
    (ap (λ (u : List Float). take (4 * n) (ran_of f k state u)) (sym (take-append-drop (4 * n) l))
    ∙ ap (take (4 * n)) (ran_append f k state (whole_take n l h) (drop (4 * n) l))
    ∙ take_at (ran_of f k state a) (ran_of f (n + k) (state_after_of f k state a) (drop (4 * n) l)) (4 * n) long)

pub redo_is : (shift : Shift) (inverse : Bool) (from : State) (l rs ts : List Float) (index : ℕ) {times rs' ts' : List Float} {n : ℕ}
    → times ≡ column_of (λ (v : Tuple). v.t) (drop (4 * index) l)
    → n ≡ (retrack_of shift from times (drop (4 * index) ts)).count
    → ts' ≡ take (4 * index) ts ++ (retrack_of shift from times (drop (4 * index) ts)).track
    → rs' ≡ take (4 * index) rs ++ (ran_of (helmert_turns inverse shift) 0 from (take (4 * n) (drop (4 * index) l)) ++ drop (4 * (index + n)) rs)
    → 4 * (index + n) ≤ length l
    → redone_of n (kept_of l rs' ts') ≡ redo_of (helmert_turns inverse shift) from (kept_of l rs ts) index
unfolding redo_of
redo_is shift inverse from l rs ts index {times} {rs'} {ts'} {n} ei en et er h =
    let f = helmert_turns inverse shift in
    let at = 4 * index in
    let rest = drop at l in
    let new-results = ran_of f index from rest in
    let new-track = track_of tracked_of f index from rest in
    let m = stretch_of new-track (drop at ts) in
    let alike = retrack-by-times shift inverse index from rest (drop at rs) (drop at ts) in
    let told = again-spliced f index from rest (drop at rs) (drop at ts) in
    let count : n ≡ m = en ∙ ap (λ (u : List Float). (retrack_of shift from u (drop at ts)).count) ei ∙ alike.count ∙ ap (λ (a : Again). a.count) told in
    let track : ts' ≡ spliced_of ts at new-track (4 * m) =
    et
    ∙ ap (λ (u : List Float). take at ts ++ (retrack_of shift from u (drop at ts)).track) ei
    ∙ ap (λ (u : List Float). take at ts ++ u) (alike.track ∙ ap (λ (a : Again). a.track) told)
    ∙ rw (drop-drop (4 * m) at ts, append_assoc) in
    let long : length rest ≡ length l - at = length-drop at l in
    let place : 4 * (index + n) ≡ at + 4 * n = omega arith in
    let results : rs' ≡ spliced_of rs at new-results (4 * n) =
    er
    ∙ ap (λ (u : List Float). take at rs ++ (u ++ drop (4 * (index + n)) rs)) (ran_take shift inverse index from rest n (omega (arith, long, h)))
    ∙ ap (λ (k : ℕ). take at rs ++ (take (4 * n) new-results ++ drop k rs)) place
    ∙ sym (append_assoc (take at rs) (take (4 * n) new-results) (drop (at + 4 * n) rs)) in
    ap (λ (a : List Float). redone_of n (kept_of l a ts')) results
    ∙ ap (λ (a : List Float). redone_of n (kept_of l (spliced_of rs at new-results (4 * n)) a)) track
    ∙ ap (λ (k : ℕ). redone_of k (kept_of l (spliced_of rs at new-results (4 * k)) (spliced_of ts at new-track (4 * m)))) count
