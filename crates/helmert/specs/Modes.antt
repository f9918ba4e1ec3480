-- The prepared shift and its four modes on one tuple: static, fixed, running, own-epoch. A state
-- goes in and comes out: the last time, and T.
use Rattle.std.specs.Prelude.{Bool, false, not, cond, ◌&&◌, eqb, Float}
use Rattle.std.specs.Float.{nan}
use Rattle.std.specs.Float.Ieee.{is_nan, ne}
use Rattle.floats.specs.Binary64.{◌⊕◌, ◌⊖◌, ◌⊗◌}
use Rattle.tuple.specs.declared.Tuple.{Tuple}
use Rattle.rotation.specs.declared.Vec3.{Vec3}
use Rattle.helmert.specs.declared.Helmert.{Helmert}
use Rattle.helmert.specs.declared.Parameters.{Parameters}
use Rattle.helmert.specs.declared.Shift.{Shift}
use Rattle.helmert.specs.declared.State.{State}
use Rattle.helmert.specs.declared.Mode.{Mode}
use Rattle.helmert.specs.declared.Stepped.{Stepped}
use Rattle.helmert.specs.Record.{exact_of, own_epoch_of, zero3}
use Rattle.helmert.specs.Units.{parameters_of}
use Rattle.helmert.specs.Rules.{rotated_of, dynamic_of}
use Rattle.rotation.specs.Matrix.{rotation_matrix_of}
use Rattle.helmert.specs.Apply.{apply_of, apply_about_of}

-- ---- the prepared shift

-- moved once by rate·d
abbrev pub advanced_of : Vec3 → Vec3 → Float → Vec3
advanced_of v rate d = record { x = v.x ⊕ rate.x ⊗ d; y = v.y ⊕ rate.y ⊗ d; z = v.z ⊕ rate.z ⊗ d }

-- Fixed, d being t_obs - t_epoch: T and R move once by rate·d, S moves by it three times, one
-- rounding after another. The rates stay.
unfoldable pub observed_of : Parameters → Float → Parameters
observed_of p d =
    record {
      t = advanced_of p.t p.dt d;
      r = advanced_of p.r p.dr d;
      s = p.s ⊕ p.ds ⊗ d ⊕ p.ds ⊗ d ⊕ p.ds ⊗ d;
      dt = p.dt;
      dr = p.dr;
      ds = p.ds;
    }

-- Fixed: dynamic with t_obs given.
abbrev pub fixed_of : Helmert → Bool
fixed_of h = dynamic_of (parameters_of h) && not (is_nan h.t_obs)

-- The convention counts only where the shift is rotated; 2 is the coordinate frame, and the Rust
-- takes any other for the position vector. A Helmert record has no pivot.
unfoldable pub prepare_of : Helmert → Shift
prepare_of h =
    let p = parameters_of h in
    record {
      parameters = cond (fixed_of h) (observed_of p (h.t_obs ⊖ h.t_epoch)) p;
      epoch = h.t_epoch;
      rotated = rotated_of p;
      dynamic = dynamic_of p;
      fixed = fixed_of h;
      exact = exact_of h;
      position_vector = not (eqb h.convention 2);
      own_epoch = own_epoch_of h;
      pivoted = false;
      pivot = zero3;
    }

-- ---- the parameters at a time that lies dt after t_epoch

-- grown by dt·rate
unfoldable pub grown_of : Vec3 → Float → Vec3 → Vec3
grown_of v dt rate = record { x = v.x ⊕ dt ⊗ rate.x; y = v.y ⊕ dt ⊗ rate.y; z = v.z ⊕ dt ⊗ rate.z }

-- R and S at dt
abbrev pub rotation_at_of : Parameters → Float → Vec3
rotation_at_of p dt = grown_of p.r dt p.dr

unfoldable pub scale_at_of : Parameters → Float → Float
scale_at_of p dt = p.s ⊕ dt ⊗ p.ds

-- ---- static and fixed: the sheet's T, R and S

-- a tuple through T and S, with the matrix of R
abbrev pub shifted_of : Shift → Bool → Vec3 → Vec3 → Float → Tuple → Tuple
shifted_of shift inv t r s v =
    apply_of inv t s shift.rotated (rotation_matrix_of r shift.exact shift.position_vector) v

-- about the pivot where the shift has one
unfoldable pub fixed_step_of : Shift → Bool → Tuple → Tuple
fixed_step_of shift inv v =
    let p = shift.parameters in
    let m = rotation_matrix_of p.r shift.exact shift.position_vector in
    cond shift.pivoted (apply_about_of inv shift.pivot p.t p.s shift.rotated m v)
    (apply_of inv p.t p.s shift.rotated m v)

-- ---- running: the Rust's mode, dynamic and not fixed

-- the sheet's start: no last time, and the sheet's T, as moved by t_obs
unfoldable pub start_of : Shift → State
start_of shift = record { last = nan; t = shift.parameters.t }

-- When a tuple's time is not equal to the last time, it becomes the last time and T grows by dt·DT,
-- dt being it less t_epoch.
unfoldable pub next_of : Shift → State → Float → State
next_of shift state time =
    cond (ne time state.last) (record { last = time; t = grown_of state.t (time ⊖ shift.epoch) shift.parameters.dt }) state

-- T spoilt: NaN on all three axes
abbrev pub nothing3 : Vec3
nothing3 = record { x = nan; y = nan; z = nan }

-- T is the state's; R and S are the sheet's at the last time's dt.
unfoldable pub running_of : Shift → Bool → State → Tuple → Stepped
running_of shift inv state v =
    let now = next_of shift state v.t in
    let dt = now.last ⊖ shift.epoch in
    let p = shift.parameters in
    record { state = now; tuple = shifted_of shift inv now.t (rotation_at_of p dt) (scale_at_of p dt) v }

-- ---- own-epoch: in running's place

-- A fix whose time is missing is lost: three NaNs, its time kept.
abbrev pub lost_of : Tuple → Tuple
lost_of v = record { x = nan; y = nan; z = nan; t = v.t }

-- T, R and S each from the sheet's at the tuple's dt; a tuple without a time, a NaN, has none
unfoldable pub own_epoch_step_of : Shift → Bool → Tuple → Tuple
own_epoch_step_of shift inv v =
    let dt = v.t ⊖ shift.epoch in
    let p = shift.parameters in
    cond (is_nan v.t) (lost_of v)
    (shifted_of shift inv (grown_of p.t dt p.dt) (rotation_at_of p dt) (scale_at_of p dt) v)

-- ---- the step: the mode that the shift calls for

-- dynamic and not fixed; a static or fixed sheet ignores the own-epoch flag
abbrev pub time_varying_of : Shift → Bool
time_varying_of shift = shift.dynamic && not shift.fixed

abbrev pub is_own_epoch_of : Shift → Bool
is_own_epoch_of shift = time_varying_of shift && shift.own_epoch

abbrev pub is_running_of : Shift → Bool
is_running_of shift = time_varying_of shift && not shift.own_epoch

-- the three in one
unfoldable pub mode_of : Shift → Mode
mode_of shift = cond (is_running_of shift) Mode.Running (cond (is_own_epoch_of shift) Mode.OwnEpoch Mode.Still)

-- Only running changes the state.
unfoldable pub step_of : Shift → Bool → State → Tuple → Stepped
step_of shift inv state v =
    cond (is_running_of shift) (running_of shift inv state v)
    (record { state = state; tuple = cond (is_own_epoch_of shift) (own_epoch_step_of shift inv v) (fixed_step_of shift inv v) })

-- Every tuple counts, save in own-epoch mode one whose time is missing.
unfoldable pub counted_of : Shift → Tuple → Bool
counted_of shift v = not (is_own_epoch_of shift && is_nan v.t)
