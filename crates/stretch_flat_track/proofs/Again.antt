-- A track written anew, window after window; and what is put back of a window. Assumes nothing.
use Prim.Native.Nat.{ℕ, ◌+◌, ◌-◌, ◌*◌, ◌%◌, ◌≤◌}
use native.Mathlib.Omega.{arith}
use mathlib.Core.Bool.{Bool, true, false}
use mathlib.Core.Path.{◌≡◌, sym, ap, subst, ◌∙◌}
use mathlib.Core.List.{List, ◌++◌}
use lib.ListN.{length, take, drop, length-drop, take-append-drop}
use lib.Seq.{length-take-le}
use lib.Ieee.{Float}
use Rattle.tuple.specs.declared.Tuple.{Tuple}
use Rattle.helmert.specs.declared.Shift.{Shift}
use Rattle.helmert.specs.declared.State.{State}
use Rattle.stretch.specs.Track.{Retracked, retracked, retrack_of}
use Rattle.stretch.proofs.Track.{Retracking, retracking-met, retracking-on, Rewritten, rewritten}
use Rattle.stretch_flat_track.proofs.Windows.{column_length, times_of, window_times, window-is, window-after}

module _ {shift : Shift} {from state : State} (l : List Float) {ts₀ ts : List Float} {i : ℕ} (now : Retracking shift from (times_of l) ts₀ i state ts) (w : ℕ) (h : 4 * (i + w) ≤ length l)
    {n : ℕ} {met : Bool} {next : State} (p : List Float) {ts' : List Float}
    (e : retracked n met next p ≡ retrack_of shift state (times_of (take (4 * i + 4 * w - 4 * i) (drop (4 * i) l))) (take (4 * i + 4 * w - 4 * i) (drop (4 * i) ts)))
    (et : ts' ≡ take (4 * i) ts ++ (p ++ drop (4 * i + 4 * w - 4 * i) (drop (4 * i) ts))) where
  fits : i + w ≤ length (times_of l)
  fits = let c = column_length (λ (v : Tuple). v.t) l in omega (arith, c, h)

  window-told : retracked n met next p ≡ retrack_of shift state (take w (drop i (times_of l))) (take (4 * w) (drop (4 * i) ts))
  window-told = e ∙ rw (window_times l i w, window-is ts i w)

  put : ts' ≡ take (4 * i) ts ++ (p ++ drop (4 * (i + w)) ts)
  put = et ∙ ap (λ (u : List Float). take (4 * i) ts ++ (p ++ u)) (window-after ts i w)

  pub retracking-window-met : met ≡ true → retracked (i + n) true next ts' ≡ retrack_of shift from (times_of l) ts₀
  retracking-window-met = retracking-met now w fits window-told put

  times_long : length (take w (drop i (times_of l))) ≡ w
  times_long = let d = length-drop i (times_of l) in length-take-le w (drop i (times_of l)) (omega (arith, d, fits))

  window-rewritten : Rewritten (retrack_of shift state (take w (drop i (times_of l))) (take (4 * w) (drop (4 * i) ts))) (length (take w (drop i (times_of l)))) (take (4 * w) (drop (4 * i) ts))
  window-rewritten =
      let d = length-drop (4 * i) ts in
      let long : length (take (4 * w) (drop (4 * i) ts)) ≡ 4 * w = length-take-le (4 * w) (drop (4 * i) ts) (omega (arith, d, now.long, fits)) in
      rewritten shift state (take w (drop i (times_of l))) (take (4 * w) (drop (4 * i) ts)) (omega (arith, times_long, long))

  pub window-few : n ≤ w
  window-few =
      let en = ap (λ (d : Retracked). d.count) window-told in
      omega (arith, en, window-rewritten.few, times_long)

  window-all : met ≡ false → n ≡ w
  window-all m =
      ap (λ (d : Retracked). d.count) window-told ∙ window-rewritten.all (sym (ap (λ (d : Retracked). d.met) window-told) ∙ m) ∙ times_long

  -- a window in which the states do not meet brings the loop on by all of its fixes
  pub retracking-window : {j : ℕ} → i + w ≡ j → met ≡ false → Retracking shift from (times_of l) ts₀ j next ts'
  retracking-window ej m =
      subst (λ (k : ℕ). Retracking shift from (times_of l) ts₀ k next ts') (ap (λ (k : ℕ). i + k) (window-all m) ∙ ej) (retracking-on now w fits window-told put m)

-- ---- what is put back of a window

-- the fixes tracked anew, and the rest as it was, are the window's track
pub put_back_is : (shift : Shift) (state : State) (times ts : List Float) {n : ℕ} {met : Bool} {next : State} {new : List Float} → length ts ≡ 4 * length times
    → retracked n met next new ≡ retrack_of shift state times ts → retracked n met next (take (4 * n) new ++ drop (4 * n) ts) ≡ retrack_of shift state times ts
put_back_is shift state times ts {n} {met} {next} {new} h e =
    let d = retrack_of shift state times ts in
    let r = rewritten shift state times ts h in
    let en : n ≡ d.count = ap (λ (u : Retracked). u.count) e in
    let et : new ≡ d.track = ap (λ (u : Retracked). u.track) e in
    let stays : take (4 * n) new ++ drop (4 * n) ts ≡ new =
    ap (λ (u : List Float). take (4 * n) new ++ u) (ap (λ (k : ℕ). drop (4 * k) ts) en ∙ sym r.rest ∙ ap (λ (k : ℕ). drop (4 * k) d.track) (sym en) ∙ ap (drop (4 * n)) (sym et)) ∙ take-append-drop (4 * n) new in
    ap (retracked n met next) stays ∙ e

-- no more fixes than there are
pub retrack_few : (shift : Shift) (state : State) (l ts : List Float) {n : ℕ} {met : Bool} {next : State} {new : List Float} → length l % 4 ≡ 0 → length ts ≡ length l
    → retracked n met next new ≡ retrack_of shift state (times_of l) ts → 4 * n ≤ length l
retrack_few shift state l ts {n} whole h e =
    let k = column_length (λ (v : Tuple). v.t) l in
    let r = rewritten shift state (times_of l) ts (omega (arith, k, whole, h)) in
    let en = ap (λ (d : Retracked). d.count) e in
    omega (arith, en, r.few, k)
