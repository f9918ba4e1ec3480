-- A row in own-epoch mode, with T, S and the matrix of small angles at its own time, has passed the
-- step. Assumes nothing.
use Prim.Native.Nat.{ℕ, ◌+◌, ◌*◌, ◌<◌}
use mathlib.Core.Path.{◌≡◌, sym, ap, ◌∙◌}
use mathlib.Core.Bool.{Bool, true, false, ◌&&◌}
use mathlib.Core.List.{List}
use lib.ListN.{length}
use lib.Ieee.{Float}
use Rattle.floats.specs.Binary64.{◌⊖◌}
use Rattle.blocks.specs.Each.{at}
use Rattle.tuple.specs.declared.Tuple.{Tuple}
use Rattle.lists.specs.Flat.{tuple_at, put_at}
use Rattle.lists.specs.Run.{Turn}
use Rattle.columns.specs.Columns.{Level, flat_of}
use Rattle.columns.specs.Passed.{Passed}
use Rattle.columns.proofs.Laws.{room, row-time}
use Rattle.rotation.specs.declared.Vec3.{Vec3}
use Rattle.rotation.specs.Matrix.{Matrix, rotation_matrix_of}
use Rattle.helmert.specs.declared.Shift.{Shift}
use Rattle.helmert.specs.declared.State.{State}
use Rattle.helmert.specs.Apply.{apply_of}
use Rattle.helmert.specs.Modes.{grown_of, rotation_at_of, scale_at_of, own_epoch_step_of}
use Rattle.helmert.specs.Turns.{no_state, all_turns}
use Rattle.helmert.proofs.Laws.{own_epoch_anyway}
use Rattle.helmert_still_columns.proofs.Laws.{turned-row}
use Rattle.helmert_running_columns.proofs.Laws.{small_angles}

module _ (shift : Shift) (inverse : Bool) (small : (shift.rotated && shift.exact) ≡ false) where
  own-epoch-small : (v : Tuple) (time : Float) → time ≡ v.t
      → let dt = time ⊖ shift.epoch in
      let p = shift.parameters in
      apply_of inverse (grown_of p.t dt p.dt) (scale_at_of p dt) shift.rotated (rotation_matrix_of (rotation_at_of p dt) false shift.position_vector) v
      ≡ own_epoch_step_of shift inverse v
  own-epoch-small v time e =
      let p = shift.parameters in
      let made : Float → Tuple =
      λ (u : Float).
      apply_of inverse (grown_of p.t (u ⊖ shift.epoch) p.dt) (scale_at_of p (u ⊖ shift.epoch)) shift.rotated
      (rotation_matrix_of (rotation_at_of p (u ⊖ shift.epoch)) false shift.position_vector) v in
      ap made e ∙ small_angles shift inverse _ _ _ v small ∙ sym (own_epoch_anyway shift inverse v)

  pub own-epoch-row : (x y z t : List Float) → Level x y z t → (i : ℕ) → i < length x → {by : Vec3} {s : Float} {m : Matrix} {l' : List Float}
      → by ≡ grown_of shift.parameters.t (at t i ⊖ shift.epoch) shift.parameters.dt → s ≡ scale_at_of shift.parameters (at t i ⊖ shift.epoch)
      → m ≡ rotation_matrix_of (rotation_at_of shift.parameters (at t i ⊖ shift.epoch)) false shift.position_vector
      → l' ≡ put_at (flat_of x y z t) (4 * i) (apply_of inverse by s shift.rotated m (tuple_at (flat_of x y z t) (4 * i)))
      → Passed (all_turns (own_epoch_step_of shift inverse)) i no_state (flat_of x y z t) (i + 1) no_state l' 1
  own-epoch-row x y z t h i k eb es em el =
      let v = tuple_at (flat_of x y z t) (4 * i) in
      let made = own-epoch-small v (at t i) (sym (row-time x y z t h i k)) in
      let turn : Tuple → Turn State = λ (w : Tuple). record { state = no_state; tuple = w; counted = true } in
      turned-row i (room x y z t h i k) (sym (ap turn (rw (eb, es, em) made))) el
