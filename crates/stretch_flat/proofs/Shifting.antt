-- The results that windows have written so far. Working definition, which no promise cites:
-- `Shifting`. Assumes nothing.
use Prim.Native.Nat.{ℕ, ◌+◌, ◌-◌, ◌*◌, ◌≤◌}
use native.Mathlib.Omega.{arith}
use mathlib.Core.Bool.{Bool}
use mathlib.Core.Path.{◌≡◌, refl, sym, ap, subst, ◌∙◌}
use mathlib.Core.List.{List, ◌++◌, append_assoc, append-nil}
use lib.ListN.{length, take, drop, length-drop, take-append-drop, drop_of_length-le}
use lib.Seq.{take_all, drop-drop, length-take-le}
use lib.Ieee.{Float}
use Rattle.helmert.specs.declared.Shift.{Shift}
use Rattle.helmert.specs.declared.State.{State}
use Rattle.helmert.specs.Turns.{helmert_turns}
use Rattle.lists.specs.Run.{ran_of, state_after_of}
use Rattle.stretch.proofs.Meeting.{whole_take, ran_append}
use Rattle.stretch.proofs.Made.{ran_anywhere}
use Rattle.stretch_flat_track.proofs.Windows.{window-is, window-put}

-- what is written before fix i, and the run from there on, are the run of all
pub record Shifting (shift : Shift) (inverse : Bool) (from : State) (l : List Float) (i : ℕ) (state : State) (rs : List Float) : Type 0 where
  pub within : 4 * i ≤ length l
  pub long : length rs ≡ length l
  pub are : take (4 * i) rs ++ ran_of (helmert_turns inverse shift) 0 state (drop (4 * i) l) ≡ ran_of (helmert_turns inverse shift) 0 from l

pub shifting_start : (shift : Shift) (inverse : Bool) (from : State) (l rs : List Float) → length rs ≡ length l → Shifting shift inverse from l 0 from rs
shifting_start shift inverse from l rs e = record { within = omega arith; long = e; are = refl }

module _ {shift : Shift} {inverse : Bool} {from state : State} {l rs : List Float} {i : ℕ} (now : Shifting shift inverse from l i state rs) where
  pub shifting-on : (w : ℕ) {j : ℕ} → i + w ≡ j → (p : List Float) {rs' : List Float} {next : State} → 4 * (i + w) ≤ length l
      → length p ≡ length (take (4 * i + 4 * w - 4 * i) (drop (4 * i) rs))
      → p ≡ ran_of (helmert_turns inverse shift) 0 state (take (4 * i + 4 * w - 4 * i) (drop (4 * i) l))
      → next ≡ state_after_of (helmert_turns inverse shift) 0 state (take (4 * i + 4 * w - 4 * i) (drop (4 * i) l))
      → rs' ≡ take (4 * i) rs ++ (p ++ drop (4 * i + 4 * w - 4 * i) (drop (4 * i) rs)) → length rs' ≡ length rs
      → Shifting shift inverse from l j next rs'
  shifting-on w ej p {rs'} {next} h lp ep en er long =
      let f = helmert_turns inverse shift in
      let rest = drop (4 * i) l in
      let a = take (4 * w) rest in
      let b = drop (4 * (i + w)) l in
      let place : 4 * i + 4 * w ≡ 4 * (i + w) = omega arith in
      let dr = length-drop (4 * i) rs in
      let dl = length-drop (4 * i) l in
      let long-p : length p ≡ 4 * w = lp ∙ ap length (window-is rs i w) ∙ length-take-le (4 * w) (drop (4 * i) rs) (omega (arith, dr, now.long)) in
      let cut : rest ≡ a ++ b = sym (take-append-drop (4 * w) rest) ∙ ap (λ (u : List Float). a ++ u) (drop-drop (4 * w) (4 * i) l ∙ ap (λ (n : ℕ). drop n l) place) in
      let made : p ≡ ran_of f 0 state a = ep ∙ ap (ran_of f 0 state) (window-is l i w) in
      let after : next ≡ state_after_of f 0 state a = en ∙ ap (state_after_of f 0 state) (window-is l i w) in
      let head : take (4 * (i + w)) rs' ≡ take (4 * i) rs ++ p = ap (take (4 * (i + w))) er ∙ window-put rs i w p (omega (arith, now.long, now.within)) long-p in
      subst (λ (k : ℕ). Shifting shift inverse from l k next rs') ej record {
        within = h;
        long = long ∙ now.long;
        are =
            rw (head, append_assoc, made, after)
            (ap (λ (u : List Float). take (4 * i) rs ++ u)
            (sym
            (ap (ran_of f 0 state) cut
            ∙ ran_append f 0 state (whole_take w rest (omega (arith, dl, h))) b
            ∙ ap (λ (u : List Float). ran_of f 0 state a ++ u) (ran_anywhere shift inverse (w + 0) 0 (state_after_of f 0 state a) b)))
            ∙ now.are);
      }

  pub shifting-end : length l ≤ 4 * i → rs ≡ ran_of (helmert_turns inverse shift) 0 from l
  shifting-end h =
      let end : length rs ≤ 4 * i = omega (arith, now.long) in
      rw (drop_of_length-le l {i = 4 * i} h, append-nil, take_all (4 * i) rs end) at now.are
