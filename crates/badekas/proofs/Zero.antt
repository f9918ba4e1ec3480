-- A pivot of three +0 gives the static Helmert step, for every T, S and matrix. Forward it does so
-- for every tuple, infinities and NaN too, except on an axis where both S·w and T are -0; inverse
-- except on an axis where the Helmert result is -0, because there the sum with the pivot is +0.
-- Assumes nothing.
use mathlib.Core.Path.{◌≡◌}
use mathlib.Core.Bool.{Bool, true, false, cond, ◌&&◌}
use lib.Dec.{T}
use lib.Ieee.{Float, binary64, fits}
use lib.Ieee.Fits.{add-fits, sub-fits, mul-fits, div-fits}
use Rattle.floats.specs.Binary64.{◌⊖◌, ◌⊗◌}
use Rattle.tuple.specs.declared.Tuple.{Tuple}
use Rattle.rotation.specs.declared.Vec3.{Vec3}
use Rattle.rotation.specs.Matrix.{Matrix, rotate_of, rotate_back_of}
use Rattle.helmert.specs.Record.{zero3}
use Rattle.helmert.specs.Apply.{position_of, offset_of, deoffset_of, forward_of, inverse_of, forward_about_of, inverse_about_of}
use Rattle.badekas.specs.Asked.{times_of}
use Rattle.badekas.proofs.Sums.{minus_zero, less_zero, plus_zero, zero-between}

-- three numbers that binary64 holds, as every number in a computer's memory is
abbrev pub Held : Vec3 → Type 0
Held v = T (fits binary64 v.x) × (T (fits binary64 v.y) × T (fits binary64 v.z))

-- on no axis are both -0
abbrev pub NotBoth : Vec3 → Vec3 → Type 0
NotBoth v t =
    ((minus_zero v.x && minus_zero t.x) ≡ false)
    × (((minus_zero v.y && minus_zero t.y) ≡ false) × ((minus_zero v.z && minus_zero t.z) ≡ false))

pub forward_without_pivot : (t : Vec3) (s : Float) (rotated : Bool) (m : Matrix) (v : Tuple) → Held (position_of v) → Held t
    → NotBoth (times_of s (cond rotated (rotate_of m (position_of v)) (position_of v))) t
    → forward_about_of zero3 t s rotated m v ≡ forward_of t s rotated m v
unfolding forward_about_of forward_of offset_of
forward_without_pivot t s rotated m v h k z =
    let w = cond rotated (rotate_of m (position_of v)) (position_of v) in
    rw (
      less_zero v.x h.0,
      less_zero v.y h.1.0,
      less_zero v.z h.1.1,
      zero-between (s ⊗ w.x) t.x (mul-fits binary64 s w.x) k.0 z.0,
      zero-between (s ⊗ w.y) t.y (mul-fits binary64 s w.y) k.1.0 z.1.0,
      zero-between (s ⊗ w.z) t.z (mul-fits binary64 s w.z) k.1.1 z.1.1,
    )

-- no axis is -0
abbrev pub NoMinusZero : Vec3 → Type 0
NoMinusZero v = (minus_zero v.x ≡ false) × ((minus_zero v.y ≡ false) × (minus_zero v.z ≡ false))

pub inverse_without_pivot : (t : Vec3) (s : Float) (rotated : Bool) (m : Matrix) (v : Tuple)
    → NoMinusZero (position_of (inverse_of t s rotated m v))
    → inverse_about_of zero3 t s rotated m v ≡ inverse_of t s rotated m v
unfolding inverse_about_of inverse_of deoffset_of
inverse_without_pivot t s true m v z =
    let u = deoffset_of t s (position_of v) in
    let w = rotate_back_of m u in
    rw (
      less_zero (v.x ⊖ t.x) (sub-fits binary64 v.x t.x),
      less_zero (v.y ⊖ t.y) (sub-fits binary64 v.y t.y),
      less_zero (v.z ⊖ t.z) (sub-fits binary64 v.z t.z),
      plus_zero w.x (add-fits binary64 _ _) z.0,
      plus_zero w.y (add-fits binary64 _ _) z.1.0,
      plus_zero w.z (add-fits binary64 _ _) z.1.1,
    )
inverse_without_pivot t s false m v z =
    let u = deoffset_of t s (position_of v) in
    rw (
      less_zero (v.x ⊖ t.x) (sub-fits binary64 v.x t.x),
      less_zero (v.y ⊖ t.y) (sub-fits binary64 v.y t.y),
      less_zero (v.z ⊖ t.z) (sub-fits binary64 v.z t.z),
      plus_zero u.x (div-fits binary64 (v.x ⊖ t.x) s) z.0,
      plus_zero u.y (div-fits binary64 (v.y ⊖ t.y) s) z.1.0,
      plus_zero u.z (div-fits binary64 (v.z ⊖ t.z) s) z.1.1,
    )
