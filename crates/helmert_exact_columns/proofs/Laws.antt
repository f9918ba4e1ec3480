-- The step of both modes makes the definition's list in own-epoch mode; a row that has passed
-- through it, at another time and at the same; sixteen rows' states, sines and matrices. Assumes
-- nothing.
use Prim.Native.Nat.{ℕ, suc, ◌+◌, ◌*◌, ◌<◌}
use native.Mathlib.Omega.{arith}
use mathlib.Core.Path.{◌≡◌, refl, sym, ap, ◌∙◌}
use mathlib.Core.Bool.{Bool, true, false}
use mathlib.Core.List.{List, [], ◌∷◌, ◌++◌}
use lib.ListN.{length}
use lib.Ieee.{Float, ne}
use Rattle.floats.specs.Binary64.{◌⊕◌, ◌⊗◌}
use Rattle.blocks.specs.Each.{at, Each}
use Rattle.trig.specs.Trig.{sin_of, cos_of}
use Rattle.tuple.specs.declared.Tuple.{Tuple}
use Rattle.rotation.specs.declared.Sines.{Sines}
use Rattle.rotation.specs.Matrix.{Matrix, second_order_of, rows_of, rotation_matrix_of}
use Rattle.lists.specs.Flat.{four_of, numbers_of, tuple_at, put_at}
use Rattle.lists.specs.Run.{ran_of}
use Rattle.columns.specs.Columns.{Level, flat_of}
use Rattle.columns.specs.Passed.{Passed}
use Rattle.columns.proofs.Laws.{room, row-time}
use Rattle.helmert.specs.declared.Shift.{Shift}
use Rattle.helmert.specs.declared.State.{State}
use Rattle.helmert.specs.Apply.{apply_of}
use Rattle.helmert.specs.Modes.{grown_of, own_epoch_step_of}
use Rattle.helmert.specs.Turns.{all_turns}
use Rattle.helmert.proofs.Laws.{own_epoch_anyway, last_time_keeps_state}
use Rattle.helmert.proofs.Current.{Current, matrix_of}
use Rattle.helmert_still_columns.proofs.Laws.{turned-row}
use Rattle.helmert_exact_columns.specs.Exact.{met_of, exact_turns, states_of, lapse_of, sines_at, Sined}

-- ---- own-epoch mode: the step's tuple is the definition's

own_tuple : (shift : Shift) (inverse : Bool) (k : ℕ) (state : State) (v : Tuple) → (exact_turns true shift inverse k state v).tuple ≡ own_epoch_step_of shift inverse v
unfolding met_of
own_tuple shift inverse k state v = sym (own_epoch_anyway shift inverse v)

-- so the list is, whatever states are handed on
pub own_list : (shift : Shift) (inverse : Bool) (k : ℕ) (state other : State) (l : List Float)
    → ran_of (exact_turns true shift inverse) k state l ≡ ran_of (all_turns (own_epoch_step_of shift inverse)) k other l
own_list shift inverse k state other (x ∷ y ∷ z ∷ t ∷ rest) =
    rw (own_tuple shift inverse k state (four_of x y z t))
    (ap (λ (u : List Float). numbers_of (own_epoch_step_of shift inverse (four_of x y z t)) ++ u) (own_list shift inverse (suc k) (exact_turns true shift inverse k state (four_of x y z t)).state other rest))
own_list shift inverse k state other (x ∷ y ∷ z ∷ []) = refl
own_list shift inverse k state other (x ∷ y ∷ []) = refl
own_list shift inverse k state other (x ∷ []) = refl
own_list shift inverse k state other [] = refl

-- ---- rows that pass

module _ (own : Bool) (shift : Shift) (inverse : Bool) where
  -- a turn, from the state that its time leads to and S and the matrix at that
  met-turn : (k : ℕ) (from : State) (v : Tuple) {now : State} {s : Float} {m : Matrix} → now ≡ met_of own shift from v.t → Current shift now s m
      → exact_turns own shift inverse k from v ≡ record { state = now; tuple = apply_of inverse now.t s shift.rotated m v; counted = true }
  met-turn k from v en held = rw (held.scale, held.matrix, en)

  -- a row whose time leads to a state
  pub met-row : (x y z t : List Float) (h : Level x y z t) (i : ℕ) → i < length x → {from now : State} {s : Float} {m : Matrix} {l : List Float}
      → now ≡ met_of own shift from (at t i) → Current shift now s m
      → l ≡ put_at (flat_of x y z t) (4 * i) (apply_of inverse now.t s shift.rotated m (tuple_at (flat_of x y z t) (4 * i)))
      → Passed (exact_turns own shift inverse) i from (flat_of x y z t) (i + 1) now l 1
  met-row x y z t h i k {from} en held el =
      turned-row i (room x y z t h i k) (met-turn i from _ (en ∙ ap (met_of own shift from) (sym (row-time x y z t h i k))) held) el

  -- a row that goes by the time of a state, which then stays
  pub same_row : (x y z t : List Float) (h : Level x y z t) (i : ℕ) → i < length x → {now : State} {s : Float} {m : Matrix} {l : List Float}
      → (own ≡ false) × (ne (at t i) now.last ≡ false) → Current shift now s m
      → l ≡ put_at (flat_of x y z t) (4 * i) (apply_of inverse now.t s shift.rotated m (tuple_at (flat_of x y z t) (4 * i)))
      → Passed (exact_turns own shift inverse) i now (flat_of x y z t) (i + 1) now l 1
  unfolding met_of
  same_row x y z t h i k {now} same held el =
      let stays : now ≡ met_of own shift now (at t i) = rw same.0 (sym (last_time_keeps_state shift now (at t i) same.1)) in
      met-row x y z t h i k stays held el

-- ---- sixteen rows

-- from a column of lapses to one of angles to one of sines or cosines
through : {s a d : List Float} {lapse : ℕ → Float} (kernel angle : Float → Float) → Each s (λ (j : ℕ). kernel (at a j)) → Each a (λ (j : ℕ). angle (at d j)) → Each d lapse
    → (k : ℕ) → k < 16 → at s k ≡ kernel (angle (lapse k))
through kernel angle es ea ed k h = es.held k h ∙ ap kernel (ea.held k h ∙ ap angle (ed.held k h))

module _ {own : Bool} {shift : Shift} {from : State} {t : List Float} {i : ℕ} {sx cx sy cy sz cz : List Float} where
  pub sixteen-sined : {d ax ay az : List Float} → Each d (lapse_of own shift from t i)
      → Each ax (λ (j : ℕ). shift.parameters.r.x ⊕ at d j ⊗ shift.parameters.dr.x) → Each sx (λ (j : ℕ). sin_of (at ax j)) × Each cx (λ (j : ℕ). cos_of (at ax j))
      → Each ay (λ (j : ℕ). shift.parameters.r.y ⊕ at d j ⊗ shift.parameters.dr.y) → Each sy (λ (j : ℕ). sin_of (at ay j)) × Each cy (λ (j : ℕ). cos_of (at ay j))
      → Each az (λ (j : ℕ). shift.parameters.r.z ⊕ at d j ⊗ shift.parameters.dr.z) → Each sz (λ (j : ℕ). sin_of (at az j)) × Each cz (λ (j : ℕ). cos_of (at az j))
      → Sined own shift from t i sx cx sy cy sz cz
  unfolding grown_of
  sixteen-sined ed ex px ey py ez pz =
      let x : Float → Float = λ (d : Float). shift.parameters.r.x ⊕ d ⊗ shift.parameters.dr.x in
      let y : Float → Float = λ (d : Float). shift.parameters.r.y ⊕ d ⊗ shift.parameters.dr.y in
      let z : Float → Float = λ (d : Float). shift.parameters.r.z ⊕ d ⊗ shift.parameters.dr.z in
      record {
        held = λ j k.
            rw (
              through sin_of x px.0 ex ed j k,
              through cos_of x px.1 ex ed j k,
              through sin_of y py.0 ey ed j k,
              through cos_of y py.1 ey ed j k,
              through sin_of z pz.0 ez ed j k,
              through cos_of z pz.1 ez ed j k,
            );
      }

  -- they make the matrix at the state of each
  pub sined-matrix : Sined own shift from t i sx cx sy cy sz cz → shift.exact ≡ true → (j : ℕ) → j < 16 → {now : State} {m : Matrix} → now ≡ states_of own shift from t i (suc j)
      → m ≡ rows_of shift.position_vector (second_order_of (sines_at sx cx sy cy sz cz j)) → m ≡ matrix_of shift now.last
  unfolding rotation_matrix_of
  sined-matrix sined exact j k en em =
      rw (exact, en) (em ∙ ap (λ (a : Sines). rows_of shift.position_vector (second_order_of a)) (sined.held j k))

-- the state after one row more
module _ (own : Bool) (shift : Shift) (from : State) (t : List Float) (i j : ℕ) where
  pub state-more : {was now : State} → was ≡ states_of own shift from t i j → now ≡ met_of own shift was (at t (i + j)) → now ≡ states_of own shift from t i (suc j)
  state-more ew en = en ∙ ap (λ (q : State). met_of own shift q (at t (i + j))) ew

  pub one_on : {now : State} → now ≡ states_of own shift from t i (suc j) → now ≡ states_of own shift from t i (j + 1)
  one_on e = let s : j + 1 ≡ suc j = omega arith in rw s e
