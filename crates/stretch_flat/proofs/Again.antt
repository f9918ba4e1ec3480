-- A redoing of flat lists, from what its windows leave. Assumes nothing.
use Prim.Native.Nat.{ℕ, ◌+◌, ◌-◌, ◌*◌, ◌%◌, ◌≤◌}
use native.Mathlib.Omega.{arith}
use mathlib.Core.Bool.{Bool, true, cond}
use mathlib.Core.Path.{◌≡◌, refl, ap, ◌∙◌}
use mathlib.Core.List.{List, [], ◌++◌, append-nil}
use lib.ListN.{length, take, drop, length-drop, drop_of_length-le}
use lib.Ieee.{Float}
use Rattle.helmert.specs.declared.Shift.{Shift}
use Rattle.helmert.specs.declared.State.{State}
use Rattle.helmert.specs.Turns.{helmert_turns}
use Rattle.lists.specs.Run.{ran_of}
use Rattle.stretch.specs.Kept.{kept_of, redone_of, redo_of, as_long_of}
use Rattle.stretch.specs.Track.{Retracked, retrack_of}
use Rattle.stretch.proofs.Made.{redo_is}
use Rattle.stretch.proofs.Parts.{part_to_end}
use Rattle.stretch.proofs.Fits.{as_long}
use Rattle.stretch_flat_track.proofs.Windows.{times_of, window-is, window-after}

-- from what the track's windows and the results' windows leave, both from the index on
pub redo_flat : (shift : Shift) (inverse : Bool) (from : State) (l rs ts : List Float) (index : ℕ) {n : ℕ} (p q : List Float) {rs' ts' : List Float}
    → (q ≡ cond (as_long_of (length (take (length l - 4 * index) (drop (4 * index) l))) (length (take (length ts - 4 * index) (drop (4 * index) ts))))
    (retrack_of shift from (times_of (take (length l - 4 * index) (drop (4 * index) l))) (take (length ts - 4 * index) (drop (4 * index) ts))).track
    (take (length ts - 4 * index) (drop (4 * index) ts)))
    × (n ≡ cond (as_long_of (length (take (length l - 4 * index) (drop (4 * index) l))) (length (take (length ts - 4 * index) (drop (4 * index) ts))))
    (retrack_of shift from (times_of (take (length l - 4 * index) (drop (4 * index) l))) (take (length ts - 4 * index) (drop (4 * index) ts))).count 0)
    × (4 * n ≤ length (take (length l - 4 * index) (drop (4 * index) l)))
    → p ≡ ran_of (helmert_turns inverse shift) 0 from (take (4 * index + 4 * n - 4 * index) (drop (4 * index) l))
    → ts' ≡ take (4 * index) ts ++ (q ++ drop (length ts - 4 * index) (drop (4 * index) ts))
    → rs' ≡ take (4 * index) rs ++ (p ++ drop (4 * index + 4 * n - 4 * index) (drop (4 * index) rs))
    → length l % 4 ≡ 0 → length ts ≡ length l → 4 * index ≤ length l
    → redone_of n (kept_of l rs' ts') ≡ redo_of (helmert_turns inverse shift) from (kept_of l rs ts) index
redo_flat shift inverse from l rs ts index {n} p q left ep et er whole long h =
    let at = 4 * index in
    let told : retrack_of shift from (times_of (take (length l - at) (drop at l))) (take (length ts - at) (drop at ts)) ≡ retrack_of shift from (times_of (drop at l)) (drop at ts) =
    rw (part_to_end l at, part_to_end ts at) in
    let dl = length-drop at l in
    let dt = length-drop at ts in
    let fits : as_long_of (length (take (length l - at) (drop at l))) (length (take (length ts - at) (drop at ts))) ≡ true =
    rw (part_to_end l at, part_to_end ts at) (as_long _ _ (omega (arith, dl, whole, h)) (omega (arith, dl, dt, long))) in
    let made = rw fits at left in
    let none : drop (length ts - at) (drop at ts) ≡ [] = drop_of_length-le (drop at ts) {i = length ts - at} (omega (arith, dt)) in
    let few : 4 * n ≤ length (drop at l) = rw (part_to_end l at) at made.2 in
    redo_is shift inverse from l rs ts index refl
    (made.1 ∙ ap (λ (d : Retracked). d.count) told)
    (et ∙ ap (λ (u : List Float). take at ts ++ u) (ap (λ (u : List Float). q ++ u) none ∙ append-nil q ∙ made.0 ∙ ap (λ (d : Retracked). d.track) told))
    (er
    ∙ ap (λ (u : List Float). take at rs ++ (p ++ u)) (window-after rs index n)
    ∙ ap (λ (u : List Float). take at rs ++ (u ++ drop (4 * (index + n)) rs)) (ep ∙ ap (ran_of (helmert_turns inverse shift) 0 from) (window-is l index n)))
    (omega (arith, few, dl, h))
