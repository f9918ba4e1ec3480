-- A record's numbers in metres and radians: the Rust's `new` up to its tests, in its letters and
-- order.
use Rattle.std.specs.Prelude.{Bool, cond, Float}
use Rattle.std.specs.Float.Ieee.{ne}
use Rattle.floats.specs.Binary64.{◌⊕◌, ◌⊗◌, ◌⊘◌, bits}
use Rattle.rotation.specs.declared.Vec3.{Vec3}
use Rattle.helmert.specs.declared.Helmert.{Helmert}
use Rattle.helmert.specs.declared.Parameters.{Parameters}
use Rattle.helmert.specs.Record.{uas_of, mm_of}

abbrev pub zero : Float
zero = bits 0

abbrev pub one : Float
one = bits 0x3ff0_0000_0000_0000

-- 1e-6, a part in a million
abbrev pub ppm : Float
ppm = bits 0x3eb0_c6f7_a0b5_ed8d

-- ---- units

-- mm: times 0.001
abbrev pub linear_scale_of : Bool → Float
linear_scale_of mm = cond mm (bits 0x3f50_624d_d2f1_a9fc) one

-- π/(k·180)
abbrev pub second_of : Float → Float
second_of k = bits 0x4009_21fb_5444_2d18 ⊘ (k ⊗ bits 0x4066_8000_0000_0000)

-- arcseconds: times π/(3.6e3·180); uas: times π/(3.6e9·180)
abbrev pub angular_scale_of : Bool → Float
angular_scale_of uas = cond uas (second_of (bits 0x41ea_d274_8000_0000)) (second_of (bits 0x40ac_2000_0000_0000))

-- ---- singles and series

-- a single that is not zero wins over its series place
unfoldable pub winner_of : Float → Float → Float
winner_of single series = cond (ne single zero) single series

abbrev pub winners_of : Vec3 → Vec3 → Vec3
winners_of singles series =
    record { x = winner_of singles.x series.x; y = winner_of singles.y series.y; z = winner_of singles.z series.z }

-- three lengths in metres
unfoldable pub lengths_of : Float → Vec3 → Vec3 → Vec3
lengths_of k singles series =
    let v = winners_of singles series in record { x = k ⊗ v.x; y = k ⊗ v.y; z = k ⊗ v.z }

-- three angles in radians
unfoldable pub angles_of : Float → Vec3 → Vec3 → Vec3
angles_of k singles series =
    let v = winners_of singles series in record { x = v.x ⊗ k; y = v.y ⊗ k; z = v.z ⊗ k }

-- ---- the parameters: translation, rotation and scale, and their rates

unfoldable pub parameters_of : Helmert → Parameters
parameters_of h =
    let linear = linear_scale_of (mm_of h) in
    let angular = angular_scale_of (uas_of h) in
    record {
      t = lengths_of linear h.xyz h.translation;
      r = angles_of angular h.rxyz h.rotation;
      s = one ⊕ winner_of h.scale h.s ⊗ ppm;
      dt = lengths_of linear h.dxyz h.translation_rate;
      dr = angles_of angular h.drxyz h.rotation_rate;
      ds = winner_of h.scale_rate h.ds ⊗ ppm;
    }
