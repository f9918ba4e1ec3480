-- Document 02, A5: which tuples meet an angle out of reach of sine and cosine, step by step. The
-- angles are those that the step's own definition takes the sine or cosine of, and an angle is out
-- of reach where the kernel answers so (trig's `out_of_reach`). A tuple counts once, however many of
-- its angles are out of reach.
use Rattle.std.specs.Prelude.{ℕ, Bool, false, not, cond, ◌&&◌, ◌||◌, List, eqb, Float}
use Rattle.std.specs.Float.Ieee.{is_nan}
use Rattle.floats.specs.Binary64.{◌⊖◌, ◌⊗◌}
use Rattle.trig.specs.Trig.{out_of_reach}
use Rattle.tuple.specs.declared.Tuple.{Tuple}
use Rattle.ellipsoid.specs.Figure.{two}
use Rattle.geocart.specs.Geocart.{geographic_of}
use Rattle.molodensky.specs.declared.Moped.{Moped}
use Rattle.deformation.specs.declared.Motion.{Motion}
use Rattle.rotation.specs.declared.Vec3.{Vec3}
use Rattle.helmert.specs.declared.Shift.{Shift}
use Rattle.helmert.specs.declared.State.{State}
use Rattle.helmert.specs.Modes.{rotation_at_of, next_of, is_running_of, is_own_epoch_of}
use Rattle.lists.specs.Run.{Turns}
use Rattle.turns.specs.Turns.{mark_at, moved_turns}

-- ---- a second number beside a step's own

-- whether a fix, by its index and in the state that reaches it, meets an angle out of reach
abbrev pub Met : Type 0 → Type 0
Met S = ℕ → S → Tuple → Bool

-- the step's turns with "met" in place of "counted": `count_of` of these is how many tuples met it
abbrev pub meeting_of : {S : Type 0} → Met S → Turns S → Turns S
meeting_of met f k state v = record { state = (f k state v).state; tuple = (f k state v).tuple; counted = met k state v }

-- longitude or latitude
abbrev pub place_out : Float → Float → Bool
place_out lam phi = out_of_reach lam || out_of_reach phi

-- longitude and latitude, and in the abridged form twice the latitude
abbrev pub offsets_out : Bool → Float → Float → Bool
offsets_out abridged lam phi = place_out lam phi || (abridged && out_of_reach (two ⊗ phi))

-- ---- cart, permtide, Molodensky: by the tuple alone

abbrev pub place_met : Tuple → Bool
place_met v = place_out v.x v.y

abbrev pub latitude_met : Tuple → Bool
latitude_met v = out_of_reach v.y

abbrev pub offsets_met : Bool → Tuple → Bool
offsets_met abridged v = offsets_out abridged v.x v.y

-- `cartesian` takes longitude and latitude; the inverse takes no sine
abbrev pub cart_met : Bool → Met State
cart_met inverse k state v = cond inverse false (place_met v)

-- the latitude; the geocentric latitude, the angle of a sine and a cosine, is out of reach only
-- where the latitude is (proofs: `geocentric_adds_nothing`)
abbrev pub permtide_met : Met State
permtide_met k state v = latitude_met v

-- also where a divisor is zero and the outcome none
abbrev pub molodensky_met : Moped → Met State
molodensky_met op k state v = offsets_met op.abridged v

-- ---- deformation

-- `geographic`'s longitude and latitude, of a fix that is present; an absent one takes none
abbrev pub moved_met : Motion → ℕ → Tuple → Bool
moved_met op mark v =
    let geo = geographic_of op.ellps v in
    eqb mark 1 && place_out geo.x geo.y

-- by the mark at the fix's index
abbrev pub deformation_met : Motion → List ℕ → Met State
deformation_met op marks k state v = moved_met op (mark_at marks k) v

-- its turns that count such fixes
abbrev pub moved_met_turns : Motion → Bool → List Float → List ℕ → Turns State
moved_met_turns op inverse velocities marks = meeting_of (deformation_met op marks) (moved_turns op inverse velocities marks)

-- ---- Helmert

abbrev pub rotation_out : Vec3 → Bool
rotation_out r = out_of_reach r.x || out_of_reach r.y || out_of_reach r.z

-- the angles whose matrix a fix uses: in running mode at the last time, in own-epoch mode at the
-- fix's own, else the sheet's
abbrev pub rotation_used : Shift → State → Tuple → Vec3
rotation_used shift state v =
    let p = shift.parameters in
    cond (is_running_of shift) (rotation_at_of p ((next_of shift state v.t).last ⊖ shift.epoch))
    (cond (is_own_epoch_of shift) (rotation_at_of p (v.t ⊖ shift.epoch)) p.r)

-- a fix uses a matrix where the shift is rotated, save in own-epoch mode one without a time
abbrev pub uses_matrix : Shift → Tuple → Bool
uses_matrix shift v = shift.rotated && not (is_own_epoch_of shift && is_nan v.t)

-- an exact matrix that is used, one of whose three angles is out of reach; a small-angle matrix
-- takes no sine
unfoldable pub matrix_out : Shift → State → Tuple → Bool
matrix_out shift state v = shift.exact && uses_matrix shift v && rotation_out (rotation_used shift state v)

-- the same of a fix in own-epoch mode, by its time
unfoldable pub own_out : Shift → Float → Bool
own_out shift time = not (is_nan time) && rotation_out (rotation_at_of shift.parameters (time ⊖ shift.epoch))

abbrev pub helmert_met : Shift → Met State
helmert_met shift k state v = matrix_out shift state v
