-- Request A4 in its own words: "With a pivot of all +0 and every coordinate nonzero and finite
-- before and after each addition, it's proved equal to the static Helmert step." Of the premise only
-- one part is used: the coordinates are nonzero before the pivot is added. Assumes nothing.
use mathlib.Core.Path.{◌≡◌, refl, sym, ap, subst, ◌∙◌}
use mathlib.Core.Bool.{true, false, cond, ◌&&◌, true≢false}
use Prim.Native.Nat.{zero, suc}
use lib.Ieee.{Float, nan, inf, fin, binary64, ne}
use lib.Ieee.Fits.{sub-fits}
use Rattle.floats.specs.Binary64.{◌⊖◌, bits}
use Rattle.floats.proofs.Zero.{equals_zero}
use Rattle.tuple.specs.declared.Tuple.{Tuple}
use Rattle.rotation.specs.declared.Vec3.{Vec3}
use Rattle.rotation.specs.Matrix.{rotate_of, rotate_back_of}
use Rattle.helmert.specs.declared.Shift.{Shift}
use Rattle.helmert.specs.declared.State.{State}
use Rattle.helmert.specs.Record.{zero3}
use Rattle.helmert.specs.Apply.{position_of, deoffset_of, inverse_of}
use Rattle.helmert.specs.Modes.{fixed_step_of, step_of}
use Rattle.helmert.proofs.Laws.{fixed_without_pivot}
use Rattle.badekas.specs.declared.Badekas.{Badekas}
use Rattle.badekas.specs.Step.{about_of, shift_of}
use Rattle.badekas.specs.Asked.{difference_of, times_of, matrix_of, turned_of, turned_back_of, Ordinary3, OrdinaryForward, OrdinaryInverse}
use Rattle.badekas.proofs.Sums.{minus_zero, less_zero}
use Rattle.badekas.proofs.Zero.{Held}
use Rattle.badekas.proofs.Records.{helmert_shift_of, no_pivot, scaled_of, forward_is_helmert, inverse_is_helmert}

other_than_zero : (x : Float) → ne x (bits 0) ≡ true → minus_zero x ≡ false
unfolding ne
other_than_zero nan h = refl
other_than_zero (inf s) h = refl
other_than_zero (fin s (suc m) e) h = refl
other_than_zero (fin false zero e) h = refl
other_than_zero (fin true zero e) h = absurd (true≢false (sym h ∙ rw (equals_zero true e)))

not_both : (x y : Float) → ne x (bits 0) ≡ true → (minus_zero x && minus_zero y) ≡ false
not_both x y h = rw (other_than_zero x h)

-- with a pivot of zeros the numbers before the first addition are Helmert's
no_difference : (v : Vec3) → Held v → difference_of v zero3 ≡ v
no_difference v h = rw (less_zero v.x h.0, less_zero v.y h.1.0, less_zero v.z h.1.1)

same_turned : (r : Badekas) (v : Tuple) → r.pivot ≡ zero3 → Held (position_of v) → turned_of (shift_of r) v ≡ scaled_of r v
unfolding shift_of about_of
same_turned r v e h =
    let q = helmert_shift_of r in
    ap (λ (u : Vec3). times_of q.parameters.s (cond q.rotated (rotate_of (matrix_of q) u) u))
    (ap (difference_of (position_of v)) e ∙ no_difference (position_of v) h)

no_offset : (t : Vec3) (s : Float) (v : Vec3) → deoffset_of zero3 s (difference_of v t) ≡ deoffset_of t s v
unfolding deoffset_of
no_offset t s v =
    rw (
      less_zero (v.x ⊖ t.x) (sub-fits binary64 v.x t.x),
      less_zero (v.y ⊖ t.y) (sub-fits binary64 v.y t.y),
      less_zero (v.z ⊖ t.z) (sub-fits binary64 v.z t.z),
    )

inverted : (q : Shift) (v : Tuple) → q.pivoted ≡ false
    → let u = deoffset_of q.parameters.t q.parameters.s (position_of v) in
    cond q.rotated (rotate_back_of (matrix_of q) u) u ≡ position_of (fixed_step_of q true v)
unfolding inverse_of
inverted q v none = sym (ap position_of (fixed_without_pivot q true v none))

same_turned_back : (r : Badekas) (v : Tuple) → r.pivot ≡ zero3
    → turned_back_of (shift_of r) v ≡ position_of (fixed_step_of (helmert_shift_of r) true v)
unfolding shift_of about_of
same_turned_back r v e =
    let q = helmert_shift_of r in
    let t = q.parameters.t in
    let s = q.parameters.s in
    ap (λ (u : Vec3). cond q.rotated (rotate_back_of (matrix_of q) u) u)
    (ap (λ (p : Vec3). deoffset_of p s (difference_of (position_of v) t)) e ∙ no_offset t s (position_of v))
    ∙ inverted q v (no_pivot r)

-- forward
pub forward_as_asked : (r : Badekas) (state : State) (v : Tuple) → r.pivot ≡ zero3 → Held (position_of v) → OrdinaryForward (shift_of r) v
    → step_of (shift_of r) false state v ≡ step_of (helmert_shift_of r) false state v
forward_as_asked r state v e h z =
    let t = (helmert_shift_of r).parameters.t in
    let b = subst Ordinary3 (same_turned r v e h) z.before in
    forward_is_helmert r state v e h
    (not_both _ t.x b.0.0, (not_both _ t.y b.1.0.0, not_both _ t.z b.1.1.0))

-- inverse
pub inverse_as_asked : (r : Badekas) (state : State) (v : Tuple) → r.pivot ≡ zero3 → OrdinaryInverse (shift_of r) v
    → step_of (shift_of r) true state v ≡ step_of (helmert_shift_of r) true state v
inverse_as_asked r state v e z =
    let b = subst Ordinary3 (same_turned_back r v e) z.before in
    inverse_is_helmert r state v e
    (other_than_zero _ b.0.0, (other_than_zero _ b.1.0.0, other_than_zero _ b.1.1.0))
