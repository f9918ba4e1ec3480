-- What is true of the rotation matrix, for callers to cite. Assumes nothing.
use mathlib.Core.Path.{◌≡◌, refl, ap, ◌∙◌}
use mathlib.Core.Bool.{Bool, true, false}
use mathlib.Core.List.{[], ◌∷◌}
use lib.Dec.{T}
use lib.Ieee.{binary64, fits, neg}
use lib.Ieee.Fits.{neg-fits}
use lib.Ieee.Bits.{of_bits-fits}
use Rattle.rotation.specs.declared.Vec3.{Vec3}
use Rattle.rotation.specs.Matrix.{Matrix, one, at, first_order_of, rows_of, rotation_matrix_of}
use Rattle.rotation.proofs.Ones.{one_times, times_one, minus_one_times}

-- rows become columns, of three rows of three
pub transposed : Matrix → Matrix
transposed m =
    (at m 0 0 ∷ at m 1 0 ∷ at m 2 0 ∷ []) ∷ (at m 0 1 ∷ at m 1 1 ∷ at m 2 1 ∷ []) ∷ (at m 0 2 ∷ at m 1 2 ∷ at m 2 2 ∷ []) ∷ []

-- the position vector matrix is the transpose of the coordinate frame's, for any angles, small or
-- exact
pub position_vector_is_transpose : (r : Vec3) (exact : Bool) → rotation_matrix_of r exact true ≡ transposed (rotation_matrix_of r exact false)
unfolding rotation_matrix_of rows_of transposed
position_vector_is_transpose r exact = refl

-- In the small-angle form the coordinate frame rows are (1, rz, -ry), (-rz, 1, rx), (ry, -rx, 1),
-- for any three binary64 numbers, infinities and NaN too.
pub small_angle_rows : (r : Vec3) → T (fits binary64 r.x) → T (fits binary64 r.y) → T (fits binary64 r.z)
    → rotation_matrix_of r false false
    ≡ (one ∷ r.z ∷ neg r.y ∷ []) ∷ (neg r.z ∷ one ∷ r.x ∷ []) ∷ (r.y ∷ neg r.x ∷ one ∷ []) ∷ []
unfolding rotation_matrix_of first_order_of rows_of
small_angle_rows r fx fy fz =
    rw (
      one_times r.z fz,
      minus_one_times r.z fz,
      minus_one_times r.y fy,
      times_one (neg r.y) (neg-fits binary64 r.y fy),
      times_one r.x fx,
      times_one (neg r.x) (neg-fits binary64 r.x fx),
      one_times one (of_bits-fits binary64 0x3ff0_0000_0000_0000),
    )

-- In the small-angle form the position vector rows are (1, -rz, ry), (rz, 1, -rx), (-ry, rx, 1).
pub small_angle_columns : (r : Vec3) → T (fits binary64 r.x) → T (fits binary64 r.y) → T (fits binary64 r.z)
    → rotation_matrix_of r false true
    ≡ (one ∷ neg r.z ∷ r.y ∷ []) ∷ (r.z ∷ one ∷ neg r.x ∷ []) ∷ (neg r.y ∷ r.x ∷ one ∷ []) ∷ []
unfolding transposed
small_angle_columns r fx fy fz = position_vector_is_transpose r false ∙ ap transposed (small_angle_rows r fx fy fz)
