-- Request A4's premise, "every coordinate nonzero and finite before and after each addition": the
-- numbers that the written sequences add to, and what they come to.
use Rattle.std.specs.Prelude.{◌≡◌, true, cond, Float}
use Rattle.std.specs.Float.Ieee.{ne}
use Rattle.std.specs.Float.Ieee.Scale.{finite}
use Rattle.floats.specs.Binary64.{◌⊕◌, ◌⊖◌, ◌⊗◌, bits}
use Rattle.tuple.specs.declared.Tuple.{Tuple}
use Rattle.rotation.specs.declared.Vec3.{Vec3}
use Rattle.rotation.specs.Matrix.{Matrix, rotation_matrix_of, rotate_of, rotate_back_of}
use Rattle.helmert.specs.declared.Shift.{Shift}
use Rattle.helmert.specs.Apply.{position_of, deoffset_of}

-- ---- the numbers of the two sequences, for a prepared shift with T, S, a matrix and a pivot P

abbrev pub sum_of : Vec3 → Vec3 → Vec3
sum_of v p = record { x = v.x ⊕ p.x; y = v.y ⊕ p.y; z = v.z ⊕ p.z }

abbrev pub difference_of : Vec3 → Vec3 → Vec3
difference_of v p = record { x = v.x ⊖ p.x; y = v.y ⊖ p.y; z = v.z ⊖ p.z }

abbrev pub times_of : Float → Vec3 → Vec3
times_of s w = record { x = s ⊗ w.x; y = s ⊗ w.y; z = s ⊗ w.z }

abbrev pub matrix_of : Shift → Matrix
matrix_of q = rotation_matrix_of q.parameters.r q.exact q.position_vector

-- forward: S·w, where w is M·(v - P)
abbrev pub turned_of : Shift → Tuple → Vec3
turned_of q v =
    let u = difference_of (position_of v) q.pivot in
    times_of q.parameters.s (cond q.rotated (rotate_of (matrix_of q) u) u)

-- inverse: w, which is Mᵀ·(((v - T) - P)/S)
abbrev pub turned_back_of : Shift → Tuple → Vec3
turned_back_of q v =
    let u = deoffset_of q.pivot q.parameters.s (difference_of (position_of v) q.parameters.t) in
    cond q.rotated (rotate_back_of (matrix_of q) u) u

-- ---- the premise

abbrev pub Ordinary : Float → Type 0
Ordinary x = (ne x (bits 0) ≡ true) × (finite x ≡ true)

abbrev pub Ordinary3 : Vec3 → Type 0
Ordinary3 v = Ordinary v.x × (Ordinary v.y × Ordinary v.z)

-- forward: two additions, of the pivot and of T
pub record OrdinaryForward (q : Shift) (v : Tuple) : Type 0 where
  pub before : Ordinary3 (turned_of q v)
  pub between : Ordinary3 (sum_of (turned_of q v) q.pivot)
  pub after : Ordinary3 (sum_of (sum_of (turned_of q v) q.pivot) q.parameters.t)

-- inverse: one addition, of the pivot
pub record OrdinaryInverse (q : Shift) (v : Tuple) : Type 0 where
  pub before : Ordinary3 (turned_back_of q v)
  pub after : Ordinary3 (sum_of (turned_back_of q v) q.pivot)
