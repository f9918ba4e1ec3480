-- Known values: document 01's marked points P2 to P5, P11 and P12 on one step after another, a
-- missing time, the blank record, and the listed differences. Assumes nothing.
use mathlib.Core.Path.{◌≡◌, refl}
use mathlib.Core.Bool.{Bool, true, false}
use mathlib.Core.List.{List, [], ◌∷◌}
use Prim.Native.Nat.{ℕ}
use lib.Ieee.{Float, nan, inf, of_bits, add, sub, mul, div, neg, eq, ne, is_nan}
use Rattle.floats.specs.Binary64.{bits}
use Rattle.tuple.specs.declared.Tuple.{Tuple}
use Rattle.rotation.specs.declared.Vec3.{Vec3}
use Rattle.helmert.specs.declared.Helmert.{Helmert}
use Rattle.helmert.specs.declared.Shift.{Shift}
use Rattle.helmert.specs.declared.State.{State}
use Rattle.helmert.specs.Record.{zero3, zeros_with, blank_helmert, zero_helmert}
use Rattle.helmert.specs.Units.{winner_of, lengths_of, angles_of, parameters_of}
use Rattle.helmert.specs.Rules.{some_of, rotated_of, dynamic_of, finite3_of, time_of, vectors_finite_of, scales_finite_of, fields_in_rule_of, lacks_convention_of, lacks_epoch_of}
use Rattle.rotation.specs.Matrix.{first_order_of, rows_of, rotation_matrix_of}
use Rattle.helmert.specs.Apply.{offset_of, deoffset_of, forward_of, inverse_of}
use Rattle.helmert.specs.Modes.{observed_of, prepare_of, grown_of, scale_at_of, fixed_step_of, start_of, next_of, running_of, own_epoch_step_of, step_of, counted_of}

-- ---- records to look at

one : Float
one = bits 0x3ff0_0000_0000_0000

y2000 : Float
y2000 = bits 0x409f_4000_0000_0000

y2001 : Float
y2001 = bits 0x409f_4400_0000_0000

y2002 : Float
y2002 = bits 0x409f_4800_0000_0000

along_x : Float → Vec3
along_x x = record { x = x; y = bits 0; z = bits 0 }

-- a record with these flags, dx, rx, ds, t_epoch and t_obs, and blank otherwise
sheet : ℕ → Float → Float → Float → Float → Float → Helmert
unfolding along_x
sheet flags dx rx ds epoch obs =
    record {
      flags = flags;
      convention = 0;
      translation = zero3;
      xyz = zero3;
      translation_rate = zero3;
      dxyz = along_x dx;
      rotation = zero3;
      rxyz = along_x rx;
      rotation_rate = zero3;
      drxyz = zero3;
      scale = bits 0;
      s = bits 0;
      scale_rate = bits 0;
      ds = ds;
      t_epoch = epoch;
      t_obs = obs;
    }

-- ---- P2 to P5: DT = (1, 0, 0), t_epoch 2000, X = 0, forward, resulting X

-- such a sheet, in running mode or with the own-epoch flag
running : Shift
unfolding sheet one y2000
running = prepare_of (sheet 0 one (bits 0) (bits 0) y2000 nan)

own_epoch : Shift
unfolding sheet one y2000
own_epoch = prepare_of (sheet 8 one (bits 0) (bits 0) y2000 nan)

-- the resulting X of fixes at these times, one step after another
from : Shift → State → List Float → List Float
from shift state [] = []
from shift state (time ∷ times) =
    let next = step_of shift false state (record { x = bits 0; y = bits 0; z = bits 0; t = time }) in
    next.tuple.x ∷ from shift next.state times

xs : Shift → List Float → List Float
unfolding from
xs shift times = from shift (start_of shift) times

marked :
    -- P2
    (xs running (y2001 ∷ y2002 ∷ y2001 ∷ []) ≡ one ∷ bits 0x4008_0000_0000_0000 ∷ bits 0x4010_0000_0000_0000 ∷ [])
    -- P3
    × (xs own_epoch (y2001 ∷ y2002 ∷ y2001 ∷ []) ≡ one ∷ bits 0x4000_0000_0000_0000 ∷ one ∷ [])
    -- P4
    × (xs running (y2001 ∷ y2001 ∷ []) ≡ one ∷ one ∷ [])
    -- P5
    × (xs running (y2001 ∷ nan ∷ y2001 ∷ []) ≡ one ∷ nan ∷ nan ∷ [])
    -- in own-epoch mode the same times give 1, NaN, 1: a fix without a time is lost, and no other
    × (xs own_epoch (y2001 ∷ nan ∷ y2001 ∷ []) ≡ one ∷ nan ∷ one ∷ [])
unfolding one y2000 y2001 y2002 along_x sheet running own_epoch from xs prepare_of parameters_of winner_of lengths_of angles_of rotated_of dynamic_of some_of start_of step_of running_of next_of own_epoch_step_of grown_of scale_at_of rotation_matrix_of first_order_of rows_of forward_of offset_of of_bits add sub mul div eq ne is_nan
marked = (refl, refl, refl, refl, refl)

-- ---- a missing time: the same sheet with the own-epoch flag, and with t_obs 2001 given besides

fixed : Shift
unfolding sheet one y2000 y2001
fixed = prepare_of (sheet 8 one (bits 0) (bits 0) y2000 y2001)

-- a fix at X = 0 with this time, and what the step makes of it
fix : Float → Tuple
fix time = record { x = bits 0; y = bits 0; z = bits 0; t = time }

made : Shift → Bool → Float → Tuple
unfolding fix
made shift inv time = (step_of shift inv (start_of shift) (fix time)).tuple

missing :
    -- three NaNs, the time kept, both ways, and not counted
    (made own_epoch false nan ≡ record { x = nan; y = nan; z = nan; t = nan })
    × (made own_epoch true nan ≡ record { x = nan; y = nan; z = nan; t = nan })
    × (counted_of own_epoch (fix nan) ≡ false)
    -- an infinite time is a time, and counts: S goes by infinity times no rate, which is NaN
    × (made own_epoch false (inf false) ≡ record { x = nan; y = nan; z = nan; t = inf false })
    × (counted_of own_epoch (fix (inf false)) ≡ true)
    -- t_epoch itself is a time
    × (made own_epoch false y2000 ≡ fix y2000)
    × (counted_of own_epoch (fix y2000) ≡ true)
    -- a fixed sheet ignores the flag and the time; running mode counts every fix
    × (made fixed false nan ≡ record { x = one; y = bits 0; z = bits 0; t = nan })
    × (counted_of fixed (fix nan) ≡ true)
    × (counted_of running (fix nan) ≡ true)
unfolding one y2000 y2001 along_x sheet running own_epoch fixed fix made prepare_of parameters_of observed_of winner_of lengths_of angles_of rotated_of dynamic_of some_of start_of step_of fixed_step_of own_epoch_step_of counted_of grown_of scale_at_of rotation_matrix_of first_order_of rows_of forward_of inverse_of offset_of deoffset_of of_bits neg add sub mul div eq ne is_nan
missing = (refl, refl, refl, refl, refl, refl, refl, refl, refl, refl)

-- ---- a record begun from the blank

-- DT = (1, 0, 0) and t_epoch 2000 set in a record
begun : Helmert → Helmert
unfolding one y2000 along_x
begun h =
    record {
      flags = h.flags;
      convention = h.convention;
      translation = h.translation;
      xyz = h.xyz;
      translation_rate = h.translation_rate;
      dxyz = along_x one;
      rotation = h.rotation;
      rxyz = h.rxyz;
      rotation_rate = h.rotation_rate;
      drxyz = h.drxyz;
      scale = h.scale;
      s = h.s;
      scale_rate = h.scale_rate;
      ds = h.ds;
      t_epoch = y2000;
      t_obs = h.t_obs;
    }

-- a blank with a rate and an epoch gives P3, the record of zeros gives P2
from_the_blank :
    (xs (prepare_of (begun blank_helmert)) (y2001 ∷ y2002 ∷ y2001 ∷ []) ≡ one ∷ bits 0x4000_0000_0000_0000 ∷ one ∷ [])
    × (xs (prepare_of (begun zero_helmert)) (y2001 ∷ y2002 ∷ y2001 ∷ []) ≡ one ∷ bits 0x4008_0000_0000_0000 ∷ bits 0x4010_0000_0000_0000 ∷ [])
unfolding begun blank_helmert zero_helmert zeros_with one y2000 y2001 y2002 along_x from xs prepare_of parameters_of winner_of lengths_of angles_of rotated_of dynamic_of some_of start_of step_of running_of next_of own_epoch_step_of grown_of scale_at_of rotation_matrix_of first_order_of rows_of forward_of offset_of of_bits add sub mul div eq ne is_nan
from_the_blank = (refl, refl)

-- ---- the rules

-- P11: rx = 1, no convention. P12: dx = 1, no epoch. The blank record breaks no rule.
rules :
    (lacks_convention_of (sheet 0 (bits 0) one (bits 0) nan nan) ≡ true)
    × (lacks_epoch_of (sheet 0 one (bits 0) (bits 0) nan nan) ≡ true)
    × (fields_in_rule_of blank_helmert ≡ true)
    × (lacks_convention_of blank_helmert ≡ false)
    × (lacks_epoch_of blank_helmert ≡ false)
    -- a rate of 2^-1074 mm a year scales to zero, and is no rate; in metres it is one
    × (lacks_epoch_of (sheet 4 (bits 1) (bits 0) (bits 0) nan nan) ≡ false)
    × (lacks_epoch_of (sheet 0 (bits 1) (bits 0) (bits 0) nan nan) ≡ true)
unfolding one along_x sheet blank_helmert zeros_with fields_in_rule_of vectors_finite_of scales_finite_of finite3_of time_of is_nan lacks_convention_of lacks_epoch_of parameters_of winner_of lengths_of angles_of rotated_of dynamic_of some_of of_bits add mul div eq ne
rules = (refl, refl, refl, refl, refl, refl, refl)

-- ---- the listed difference of t_obs

-- ds = 1,000,000 ppm a year and a year from t_epoch to t_obs: T moves once, and S three times, from
-- 1 to 4, where IOGP has 2
observed : let p = (prepare_of (sheet 0 one (bits 0) (bits 0x412e_8480_0000_0000) y2000 y2001)).parameters in
    (p.t ≡ along_x one) × (p.s ≡ bits 0x4010_0000_0000_0000)
unfolding one y2000 y2001 along_x sheet prepare_of parameters_of winner_of lengths_of angles_of rotated_of dynamic_of some_of observed_of of_bits add sub mul div eq ne is_nan
observed = (refl, refl)

-- ---- a worked example of IOGP 373-7-2: WGS 72 to WGS 84, Z + 4.5 m, rz 0.554", 0.219 ppm

-- by the position vector, or by the coordinate frame with the angle's sign turned
wgs72 : ℕ → Float → Helmert
wgs72 convention rz =
    record {
      flags = 0;
      convention = convention;
      translation = record { x = bits 0; y = bits 0; z = bits 0x4012_0000_0000_0000 };
      xyz = zero3;
      translation_rate = zero3;
      dxyz = zero3;
      rotation = zero3;
      rxyz = record { x = bits 0; y = bits 0; z = rz };
      rotation_rate = zero3;
      drxyz = zero3;
      scale = bits 0;
      s = bits 0x3fcc_0831_26e9_78d5;
      scale_rate = bits 0;
      ds = bits 0;
      t_epoch = nan;
      t_obs = nan;
    }

there : Helmert → Tuple → Tuple
there h v = let shift = prepare_of h in (step_of shift false (start_of shift) v).tuple

back : Helmert → Tuple → Tuple
back h v = let shift = prepare_of h in (step_of shift true (start_of shift) v).tuple

-- X 3657660.66, Y 255768.55, Z 5201382.11
old_place : Tuple
old_place = record { x = bits 0x414b_e7de_547a_e148; y = bits 0x410f_38c4_6666_6666; z = bits 0x4153_d779_870a_3d71; t = nan }

-- X 3657660.774, Y 255778.430, Z 5201387.749, where the published figures are 3657660.78,
-- 255778.43, 5201387.75
new_place : Tuple
new_place = record { x = bits 0x414b_e7de_6314_a0d2; y = bits 0x410f_3913_70a8_4270; z = bits 0x4153_d77a_eff1_4c60; t = nan }

-- X 3657660.660026, Y 255768.550002, Z 5201382.11: the transpose of a small-angle matrix is its
-- inverse to first order
place_again : Tuple
place_again = record { x = bits 0x414b_e7de_547b_bea0; y = bits 0x410f_38c4_6667_5e0b; z = bits 0x4153_d779_870a_3d71; t = nan }

wgs72_to_wgs84 :
    (there (wgs72 1 (bits 0x3fe1_ba5e_353f_7cee)) old_place ≡ new_place)
    × (there (wgs72 2 (bits 0xbfe1_ba5e_353f_7cee)) old_place ≡ new_place)
    × (back (wgs72 1 (bits 0x3fe1_ba5e_353f_7cee)) new_place ≡ place_again)
unfolding wgs72 there back old_place new_place place_again prepare_of parameters_of winner_of lengths_of angles_of rotated_of dynamic_of some_of start_of step_of fixed_step_of rotation_matrix_of first_order_of rows_of forward_of inverse_of offset_of deoffset_of of_bits neg add sub mul div eq ne is_nan
wgs72_to_wgs84 = (refl, refl, refl)
