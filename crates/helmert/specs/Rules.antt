-- The rules of refusal that a Helmert record can break, by document 01's numbers. Rotated and
-- dynamic are judged on the scaled numbers.
use Rattle.std.specs.Prelude.{Bool, ◌&&◌, ◌||◌, ltb, eqb, Float}
use Rattle.std.specs.Float.Ieee.{is_nan, ne}
use Rattle.std.specs.Float.Ieee.Scale.{finite}
use Rattle.rotation.specs.declared.Vec3.{Vec3}
use Rattle.helmert.specs.declared.Helmert.{Helmert}
use Rattle.helmert.specs.declared.Parameters.{Parameters}
use Rattle.helmert.specs.Units.{zero, parameters_of}

-- ---- rotated and dynamic

-- any of the three not zero
unfoldable pub some_of : Vec3 → Bool
some_of v = ne v.x zero || ne v.y zero || ne v.z zero

-- Rotated: any scaled angle or angle rate not zero.
unfoldable pub rotated_of : Parameters → Bool
rotated_of p = some_of p.r || some_of p.dr

-- Dynamic: any scaled rate not zero.
unfoldable pub dynamic_of : Parameters → Bool
dynamic_of p = some_of p.dt || some_of p.dr || ne p.ds zero

-- ---- rule 5, "a body field outside its rule"

unfoldable pub finite3_of : Vec3 → Bool
finite3_of v = finite v.x && finite v.y && finite v.z

-- a time that is finite or not given
unfoldable pub time_of : Float → Bool
time_of x = finite x || is_nan x

unfoldable pub vectors_finite_of : Helmert → Bool
vectors_finite_of h =
    finite3_of h.translation
    && finite3_of h.xyz
    && finite3_of h.translation_rate
    && finite3_of h.dxyz
    && finite3_of h.rotation
    && finite3_of h.rxyz
    && finite3_of h.rotation_rate
    && finite3_of h.drxyz

unfoldable pub scales_finite_of : Helmert → Bool
scales_finite_of h = finite h.scale && finite h.s && finite h.scale_rate && finite h.ds

-- no flag but the four, a convention of the three, finite numbers, and both times finite or not
-- given
unfoldable pub fields_in_rule_of : Helmert → Bool
fields_in_rule_of h =
    ltb h.flags 16
    && ltb h.convention 3
    && vectors_finite_of h
    && scales_finite_of h
    && time_of h.t_epoch
    && time_of h.t_obs

-- ---- rule 6, "rotated, convention none"

unfoldable pub lacks_convention_of : Helmert → Bool
lacks_convention_of h = rotated_of (parameters_of h) && eqb h.convention 0

-- ---- rule 7, "dynamic, t_epoch not given"

unfoldable pub lacks_epoch_of : Helmert → Bool
lacks_epoch_of h = dynamic_of (parameters_of h) && is_nan h.t_epoch
