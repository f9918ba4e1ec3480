-- Rows of a running shift: one row with S and the matrix at its state's time, rows of one time, and
-- the lanes of sixteen. Assumes nothing.
use Prim.Native.Nat.{ℕ, suc, ◌+◌, ◌*◌, ◌≤◌, ◌<◌}
use native.Mathlib.Omega.{arith}
use mathlib.Core.Path.{◌≡◌, refl, sym, ap, ◌∙◌}
use mathlib.Core.Bool.{Bool, true, false, ◌&&◌, true≢false}
use mathlib.Core.List.{List}
use lib.ListN.{length, set}
use lib.Ieee.{Float, ne}
use Rattle.floats.specs.Binary64.{◌⊖◌}
use Rattle.blocks.specs.Each.{at}
use Rattle.blocks.proofs.Laws.{none_filled, one_more, all_filled}
use Rattle.tuple.specs.declared.Tuple.{Tuple}
use Rattle.lists.specs.Flat.{tuple_at, put_at}
use Rattle.lists.specs.Run.{Turn, Turns}
use Rattle.columns.specs.Columns.{Level, flat_of}
use Rattle.columns.specs.Passed.{Passed}
use Rattle.columns.proofs.Laws.{room, row-time}
use Rattle.columns.proofs.Passed.{passed_as}
use Rattle.rotation.specs.declared.Vec3.{Vec3}
use Rattle.rotation.specs.Matrix.{Matrix, rotation_matrix_of}
use Rattle.helmert.specs.declared.Shift.{Shift}
use Rattle.helmert.specs.declared.State.{State}
use Rattle.helmert.specs.declared.Stepped.{Stepped}
use Rattle.helmert.specs.Apply.{forward_of, inverse_of, apply_of}
use Rattle.helmert.specs.Modes.{shifted_of, next_of, running_of, rotation_at_of, scale_at_of}
use Rattle.helmert.specs.Turns.{stepped_turns}
use Rattle.helmert.proofs.Laws.{last_time_keeps_state}
use Rattle.helmert.proofs.Current.{held_turn, unrotated_turn}
use Rattle.helmert_still_columns.proofs.Laws.{turned-row}
use Rattle.helmert_running_columns.specs.Lanes.{states_of, LanesTo, Lanes}

-- S and the matrix of small angles at a dt
abbrev scaled : Shift → Float → Float
scaled shift dt = scale_at_of shift.parameters dt

abbrev turned : Shift → Float → Matrix
turned shift dt = rotation_matrix_of (rotation_at_of shift.parameters dt) false shift.position_vector

-- ---- the matrix of small angles

unrotated : (inverse : Bool) (by : Vec3) (s : Float) (m m' : Matrix) (v : Tuple) → apply_of inverse by s false m v ≡ apply_of inverse by s false m' v
unfolding forward_of inverse_of
unrotated true by s m m' v = refl
unrotated false by s m m' v = refl

pub small_angles : (shift : Shift) (inverse : Bool) (by r : Vec3) (s : Float) (v : Tuple) → (shift.rotated && shift.exact) ≡ false
    → apply_of inverse by s shift.rotated (rotation_matrix_of r false shift.position_vector) v ≡ shifted_of shift inverse by r s v
small_angles shift inverse by r s v h = go shift.rotated shift.exact h
  where
    go : (a b : Bool) → (a && b) ≡ false
        → apply_of inverse by s a (rotation_matrix_of r false shift.position_vector) v ≡ apply_of inverse by s a (rotation_matrix_of r b shift.position_vector) v
    go true true e = absurd (true≢false e)
    go true false e = refl
    go false b e = unrotated inverse by s _ _ v

-- ---- one row

handed : Stepped → Turn State
handed q = record { state = q.state; tuple = q.tuple; counted = true }

module _ (shift : Shift) (inverse : Bool) (small : (shift.rotated && shift.exact) ≡ false) where
  -- T, S and the matrix at the state's last time make the definition's turn
  turn_at : (k : ℕ) (from now : State) (v : Tuple) {s : Float} {m : Matrix} → now ≡ next_of shift from v.t
      → s ≡ scaled shift (now.last ⊖ shift.epoch) → m ≡ turned shift (now.last ⊖ shift.epoch)
      → stepped_turns (running_of shift inverse) k from v ≡ record { state = now; tuple = apply_of inverse now.t s shift.rotated m v; counted = true }
  unfolding handed
  turn_at k from now v {s} {m} en es em =
      sym
      (ap handed
      (held_turn shift inverse from v (record { next = en; held = record { scale = es; matrix = refl } })
      (ap (λ (n : Matrix). apply_of inverse now.t s shift.rotated n v) em ∙ small_angles shift inverse now.t _ s v small)))

  pub met-row : (x y z t : List Float) → Level x y z t → (i : ℕ) → i < length x → {from now : State} {s : Float} {m : Matrix} {l' : List Float} → now ≡ next_of shift from (at t i)
      → s ≡ scaled shift (now.last ⊖ shift.epoch) → m ≡ turned shift (now.last ⊖ shift.epoch)
      → l' ≡ put_at (flat_of x y z t) (4 * i) (apply_of inverse now.t s shift.rotated m (tuple_at (flat_of x y z t) (4 * i)))
      → Passed (stepped_turns (running_of shift inverse)) i from (flat_of x y z t) (i + 1) now l' 1
  met-row x y z t h i k {from} {now} en es em el =
      turned-row i (room x y z t h i k)
      (turn_at i from now (tuple_at (flat_of x y z t) (4 * i)) (en ∙ ap (next_of shift from) (sym (row-time x y z t h i k))) es em)
      el

  -- ---- rows of one time: the state that has come to it stays

  pub same-time : (t : List Float) (i e : ℕ) {now : State} {s : Float} {m : Matrix} → s ≡ scaled shift (now.last ⊖ shift.epoch)
      → m ≡ turned shift (now.last ⊖ shift.epoch) → ((k : ℕ) → i ≤ k → k < e → ne (at t k) now.last ≡ false)
      → (k : ℕ) → i ≤ k → k < e → (v : Tuple) → v.t ≡ at t k
      → stepped_turns (running_of shift inverse) k now v ≡ record { state = now; tuple = apply_of inverse now.t s shift.rotated m v; counted = true }
  same-time t i e {now} es em still k a b v h =
      turn_at k now now v (sym (ap (next_of shift now) h ∙ last_time_keeps_state shift now (at t k) (still k a b))) es em

-- ---- a row of a shift that is not rotated, with any matrix

pub unrotated-row : (shift : Shift) (inverse : Bool) → shift.rotated ≡ false → (x y z t : List Float) → Level x y z t → (i : ℕ) → i < length x → {from now : State} {s : Float} (m : Matrix) {l' : List Float}
    → now ≡ next_of shift from (at t i) → s ≡ scaled shift (now.last ⊖ shift.epoch)
    → l' ≡ put_at (flat_of x y z t) (4 * i) (apply_of inverse now.t s false m (tuple_at (flat_of x y z t) (4 * i)))
    → Passed (stepped_turns (running_of shift inverse)) i from (flat_of x y z t) (i + 1) now l' 1
unfolding handed
unrotated-row shift inverse flat x y z t h i k {from} {now} {s} m en es el =
    turned-row i (room x y z t h i k)
    (sym
    (ap handed
    (unrotated_turn shift inverse from (tuple_at (flat_of x y z t) (4 * i)) flat m
    (record { next = en ∙ ap (next_of shift from) (sym (row-time x y z t h i k)); held = record { scale = es; matrix = refl } })
    refl)))
    el

-- ---- sixteen rows in two phases

module _ (shift : Shift) (from : State) (t : List Float) (i : ℕ) where
  pub lanes_start : {tx ty tz d : List Float} → length tx ≡ 16 → length ty ≡ 16 → length tz ≡ 16 → length d ≡ 16 → LanesTo 0 shift from t i tx ty tz d
  lanes_start bx by bz bd = record { x-held = none_filled bx; y-held = none_filled by; z-held = none_filled bz; d-held = none_filled bd }

  pub lanes-more : {tx ty tz d : List Float} {j : ℕ} {state : State} → j < 16 → state ≡ states_of shift from t i (suc j) → LanesTo j shift from t i tx ty tz d
      → LanesTo (j + 1) shift from t i (set tx j state.t.x) (set ty j state.t.y) (set tz j state.t.z) (set d j (state.last ⊖ shift.epoch))
  lanes-more k e now =
      record {
        x-held = one_more k (ap (λ (q : State). q.t.x) e) now.x-held;
        y-held = one_more k (ap (λ (q : State). q.t.y) e) now.y-held;
        z-held = one_more k (ap (λ (q : State). q.t.z) e) now.z-held;
        d-held = one_more k (ap (λ (q : State). q.last ⊖ shift.epoch) e) now.d-held;
      }

  pub lanes_all : {tx ty tz d : List Float} {j : ℕ} → 16 ≤ j → LanesTo j shift from t i tx ty tz d → Lanes shift from t i tx ty tz d
  lanes_all k now =
      record { x-held = all_filled k now.x-held; y-held = all_filled k now.y-held; z-held = all_filled k now.z-held; d-held = all_filled k now.d-held }

  pub state-more : (j : ℕ) {was state : State} → was ≡ states_of shift from t i j → state ≡ next_of shift was (at t (i + j)) → state ≡ states_of shift from t i (suc j)
  state-more j ew es = es ∙ ap (λ (q : State). next_of shift q (at t (i + j))) ew

  pub one_on : (j : ℕ) {state : State} → state ≡ states_of shift from t i (suc j) → state ≡ states_of shift from t i (j + 1)
  one_on j e = let s : j + 1 ≡ suc j = omega arith in rw s e

  -- how far the lanes have come
  pub lanes_at : {f : Turns State} {l₀ l : List Float} {j n : ℕ} → j ≡ n → Passed f i from l₀ (i + j) (states_of shift from t i j) l j
      → Passed f i from l₀ (i + n) (states_of shift from t i n) l n
  lanes_at e now = passed_as (ap (λ (k : ℕ). i + k) e) (ap (states_of shift from t i) e) e now

  module _ (inverse : Bool) (small : (shift.rotated && shift.exact) ≡ false) (x y z : List Float) (h : Level x y z t) {tx ty tz d : List Float} (lanes : Lanes shift from t i tx ty tz d) (j : ℕ) (k : j < 16) (inside : i + j < length x) where
    at-lane : record { x = at tx j; y = at ty j; z = at tz j } ≡ (states_of shift from t i (suc j)).t
    at-lane = rw (lanes.x-held.held j k, lanes.y-held.held j k, lanes.z-held.held j k)

    pub lane_row : {s : Float} {m : Matrix} {l' : List Float} → s ≡ scaled shift (at d j) → m ≡ turned shift (at d j)
        → l' ≡ put_at (flat_of x y z t) (4 * (i + j)) (apply_of inverse (record { x = at tx j; y = at ty j; z = at tz j }) s shift.rotated m (tuple_at (flat_of x y z t) (4 * (i + j))))
        → Passed (stepped_turns (running_of shift inverse)) (i + j) (states_of shift from t i j) (flat_of x y z t) (i + (j + 1)) (states_of shift from t i (j + 1)) l' 1
    lane_row {s} {m} {l'} es em el =
        let e : suc j ≡ j + 1 = omega arith in
        let next : i + j + 1 ≡ i + (j + 1) = omega arith in
        let l = flat_of x y z t in
        let dj = lanes.d-held.held j k in
        passed_as next (ap (states_of shift from t i) e) refl
        (met-row shift inverse small x y z t h (i + j) inside {now = states_of shift from t i (suc j)} refl (es ∙ ap (scaled shift) dj) (em ∙ ap (turned shift) dj)
        (el ∙ ap (λ (b : Vec3). put_at l (4 * (i + j)) (apply_of inverse b s shift.rotated m (tuple_at l (4 * (i + j))))) at-lane))
