-- A flat list in windows: the place and the times of a window, and the track that windows have
-- written so far. Assumes nothing.
use Prim.Native.Nat.{ℕ, zero, suc, ◌+◌, ◌-◌, ◌*◌, ◌/◌, ◌%◌, ◌≤◌}
use native.Mathlib.Omega.{arith}
use mathlib.Core.Path.{◌≡◌, refl, sym, ap, subst, ◌∙◌}
use mathlib.Core.List.{List, [], ◌∷◌, ◌++◌, append_assoc}
use lib.ListN.{length, take, drop, get_or, length-drop, length-append}
use lib.Seq.{drop-drop, take_at, length-take-le}
use lib.Ieee.{Float, nan}
use Rattle.tuple.specs.declared.Tuple.{Tuple}
use Rattle.helmert.specs.declared.Shift.{Shift}
use Rattle.helmert.specs.declared.State.{State}
use Rattle.lists.specs.Flat.{tuple_at}
use Rattle.lists.proofs.Places.{tuple-there}
use Rattle.columns.specs.Columns.{Level, column_of}
use Rattle.columns.proofs.Laws.{row-time, back_and_there}
use Rattle.stretch.specs.Track.{moved_by_of, tracks_of}
use Rattle.stretch.proofs.Track.{Tracking, tracking-on}

-- ---- the window of w fixes from fix i on: its place
module _ (l : List Float) (i w : ℕ) where
  wide : 4 * i + 4 * w - 4 * i ≡ 4 * w
  wide = omega arith

  pub window-is : take (4 * i + 4 * w - 4 * i) (drop (4 * i) l) ≡ take (4 * w) (drop (4 * i) l)
  window-is = ap (λ (n : ℕ). take n (drop (4 * i) l)) wide

  -- what lies after it
  pub window-after : drop (4 * i + 4 * w - 4 * i) (drop (4 * i) l) ≡ drop (4 * (i + w)) l
  window-after =
      let e : 4 * i + 4 * w ≡ 4 * (i + w) = omega arith in
      ap (λ (n : ℕ). drop n (drop (4 * i) l)) wide ∙ drop-drop (4 * w) (4 * i) l ∙ ap (λ (n : ℕ). drop n l) e

  -- a part put in its place
  pub window-put : (p : List Float) → 4 * i ≤ length l → length p ≡ 4 * w → take (4 * (i + w)) (take (4 * i) l ++ (p ++ drop (4 * i + 4 * w - 4 * i) (drop (4 * i) l))) ≡ take (4 * i) l ++ p
  window-put p h k =
      let rest = drop (4 * i + 4 * w - 4 * i) (drop (4 * i) l) in
      let long : length (take (4 * i) l ++ p) ≡ 4 * (i + w) =
      length-append (take (4 * i) l) p ∙ ap (λ (n : ℕ). n + length p) (length-take-le (4 * i) l h) ∙ omega (arith, k) in
      ap (take (4 * (i + w))) (sym (append_assoc (take (4 * i) l) p rest)) ∙ take_at (take (4 * i) l ++ p) rest (4 * (i + w)) long

-- ---- columns of a flat list

pub column_length : (pick : Tuple → Float) (l : List Float) → length (column_of pick l) ≡ length l / 4
unfolding column_of
column_length pick (x ∷ y ∷ z ∷ t ∷ rest) = ap suc (column_length pick rest) ∙ omega arith
column_length pick (x ∷ y ∷ z ∷ []) = refl
column_length pick (x ∷ y ∷ []) = refl
column_length pick (x ∷ []) = refl
column_length pick [] = refl

column_take : (pick : Tuple → Float) (l : List Float) (n : ℕ) → column_of pick (take (4 * n) l) ≡ take n (column_of pick l)
unfolding column_of
column_take pick l zero = refl
column_take pick (x ∷ y ∷ z ∷ t ∷ rest) (suc n) =
    let e : 4 * suc n ≡ suc (suc (suc (suc (4 * n)))) = omega arith in
    rw (e, column_take pick rest n)
column_take pick (x ∷ y ∷ z ∷ []) (suc n) = let e : 4 * suc n ≡ suc (suc (suc (suc (4 * n)))) = omega arith in rw e
column_take pick (x ∷ y ∷ []) (suc n) = let e : 4 * suc n ≡ suc (suc (suc (suc (4 * n)))) = omega arith in rw e
column_take pick (x ∷ []) (suc n) = let e : 4 * suc n ≡ suc (suc (suc (suc (4 * n)))) = omega arith in rw e
column_take pick [] (suc n) = let e : 4 * suc n ≡ suc (suc (suc (suc (4 * n)))) = omega arith in rw e

column_drop : (pick : Tuple → Float) (l : List Float) (n : ℕ) → column_of pick (drop (4 * n) l) ≡ drop n (column_of pick l)
unfolding column_of
column_drop pick l zero = refl
column_drop pick (x ∷ y ∷ z ∷ t ∷ rest) (suc n) =
    let e : 4 * suc n ≡ suc (suc (suc (suc (4 * n)))) = omega arith in
    rw (e, column_drop pick rest n)
column_drop pick (x ∷ y ∷ z ∷ []) (suc n) = let e : 4 * suc n ≡ suc (suc (suc (suc (4 * n)))) = omega arith in rw e
column_drop pick (x ∷ y ∷ []) (suc n) = let e : 4 * suc n ≡ suc (suc (suc (suc (4 * n)))) = omega arith in rw e
column_drop pick (x ∷ []) (suc n) = let e : 4 * suc n ≡ suc (suc (suc (suc (4 * n)))) = omega arith in rw e
column_drop pick [] (suc n) = let e : 4 * suc n ≡ suc (suc (suc (suc (4 * n)))) = omega arith in rw e

abbrev pub times_of : List Float → List Float
times_of l = column_of (λ (v : Tuple). v.t) l

-- the times of the window of w fixes from fix i on
pub window_times : (l : List Float) (i w : ℕ) → times_of (take (4 * i + 4 * w - 4 * i) (drop (4 * i) l)) ≡ take w (drop i (times_of l))
window_times l i w =
    ap (λ (n : ℕ). times_of (take n (drop (4 * i) l))) (let e : 4 * i + 4 * w - 4 * i ≡ 4 * w = omega arith in e)
    ∙ column_take (λ (v : Tuple). v.t) (drop (4 * i) l) w
    ∙ ap (take w) (column_drop (λ (v : Tuple). v.t) l i)

-- the time of fix i
pub time_there : (l : List Float) (i : ℕ) → length l % 4 ≡ 0 → 4 * i + 4 ≤ length l → get_or l (4 * i + 3) nan ≡ get_or (times_of l) i nan
time_there l i whole h =
    let cx = column_length (λ (v : Tuple). v.x) l in
    let cy = column_length (λ (v : Tuple). v.y) l in
    let cz = column_length (λ (v : Tuple). v.z) l in
    let ct = column_length (λ (v : Tuple). v.t) l in
    let level : Level (column_of (λ (v : Tuple). v.x) l) (column_of (λ (v : Tuple). v.y) l) (column_of (λ (v : Tuple). v.z) l) (times_of l) = (cy ∙ sym cx, cz ∙ sym cx, ct ∙ sym cx) in
    sym (ap (λ (v : Tuple). v.t) (tuple-there l (4 * i) h))
    ∙ ap (λ (u : List Float). (tuple_at u (4 * i)).t) (sym (back_and_there l whole))
    ∙ row-time (column_of (λ (v : Tuple). v.x) l) (column_of (λ (v : Tuple). v.y) l) (column_of (λ (v : Tuple). v.z) l) (times_of l) level i (omega (arith, cx))

-- ---- the track, window after window

module _ {shift : Shift} {from state : State} (l : List Float) {ts : List Float} {i : ℕ} (now : Tracking shift from (times_of l) i state ts) where
  pub tracking-window : (w : ℕ) {j : ℕ} → i + w ≡ j → (p : List Float) {ts' : List Float} {next : State} → 4 * (i + w) ≤ length l
      → length p ≡ length (take (4 * i + 4 * w - 4 * i) (drop (4 * i) ts))
      → p ≡ tracks_of shift state (times_of (take (4 * i + 4 * w - 4 * i) (drop (4 * i) l)))
      → next ≡ moved_by_of shift state (times_of (take (4 * i + 4 * w - 4 * i) (drop (4 * i) l)))
      → ts' ≡ take (4 * i) ts ++ (p ++ drop (4 * i + 4 * w - 4 * i) (drop (4 * i) ts)) → length ts' ≡ length ts
      → Tracking shift from (times_of l) j next ts'
  tracking-window w ej p {ts'} {next} h lp ep en et long =
      let c = column_length (λ (v : Tuple). v.t) l in
      let dt = length-drop (4 * i) ts in
      let fits : i + w ≤ length (times_of l) = omega (arith, c, h) in
      let long-p : length p ≡ 4 * w = lp ∙ ap length (window-is ts i w) ∙ length-take-le (4 * w) (drop (4 * i) ts) (omega (arith, dt, now.long, fits)) in
      subst (λ (k : ℕ). Tracking shift from (times_of l) k next ts') ej
      (tracking-on now w fits
      (ep ∙ ap (tracks_of shift state) (window_times l i w))
      (en ∙ ap (moved_by_of shift state) (window_times l i w))
      (ap (take (4 * (i + w))) et ∙ window-put ts i w p (omega (arith, now.long, now.within)) long-p) long)
