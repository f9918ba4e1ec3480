-- Helmert with an exact rotation from row to row, running or own-epoch: the state that a row goes
-- by, the step by it, and the sines and cosines of R for sixteen rows.
use Rattle.std.specs.Prelude.{ℕ, zero, suc, ◌+◌, ◌<◌, ◌≡◌, Bool, true, cond, List, Float}
use Rattle.floats.specs.Binary64.{◌⊖◌}
use Rattle.blocks.specs.Each.{at}
use Rattle.rotation.specs.declared.Sines.{Sines}
use Rattle.rotation.specs.Matrix.{sines_of}
use Rattle.lists.specs.Run.{Turns}
use Rattle.helmert.specs.declared.Shift.{Shift}
use Rattle.helmert.specs.declared.State.{State}
use Rattle.helmert.specs.Modes.{grown_of, rotation_at_of, scale_at_of, shifted_of, next_of}

-- The last time and T at a row of this time. Running: those that the state before it leads to.
-- Own-epoch: the row's own time and the sheet's T grown to it, whatever the state before it was.
unfoldable pub met_of : Bool → Shift → State → Float → State
met_of own shift state time =
    cond own (record { last = time; t = grown_of shift.parameters.t (time ⊖ shift.epoch) shift.parameters.dt }) (next_of shift state time)

-- One step for both modes: T is the state's at the row; R and S are the sheet's at the last time's
-- dt. In running mode it is `running_of`; in own-epoch mode its tuple is that of `own_epoch_step_of`
-- (proofs/Laws.antt).
abbrev pub exact_turns : Bool → Shift → Bool → Turns State
exact_turns own shift inverse k state v =
    let now = met_of own shift state v.t in
    let dt = now.last ⊖ shift.epoch in
    let p = shift.parameters in
    record { state = now; tuple = shifted_of shift inverse now.t (rotation_at_of p dt) (scale_at_of p dt) v; counted = true }

-- ---- sixteen rows from an index on

-- the state after n of them
abbrev pub states_of : Bool → Shift → State → List Float → ℕ → ℕ → State
states_of own shift from times i zero = from
states_of own shift from times i (suc n) = met_of own shift (states_of own shift from times i n) (at times (i + n))

-- from t_epoch to the last time at row j of them
abbrev pub lapse_of : Bool → Shift → State → List Float → ℕ → ℕ → Float
lapse_of own shift from times i j = (states_of own shift from times i (suc j)).last ⊖ shift.epoch

-- the sines and cosines at a place of six columns
abbrev pub sines_at : List Float → List Float → List Float → List Float → List Float → List Float → ℕ → Sines
sines_at sx cx sy cy sz cz j = record { sx = at sx j; cx = at cx j; sy = at sy j; cy = at cy j; sz = at sz j; cz = at cz j }

-- six columns hold those of R at each of the sixteen rows
pub record Sined (own : Bool) (shift : Shift) (from : State) (times : List Float) (i : ℕ) (sx cx sy cy sz cz : List Float) : Type 0 where
  pub held : (j : ℕ) → j < 16 → sines_at sx cx sy cy sz cz j ≡ sines_of (rotation_at_of shift.parameters (lapse_of own shift from times i j))
