-- A sheet's ten-parameter record: it is never dynamic, its step is the written sequence, leaves the
-- state as it is and counts every tuple; and with a pivot of three +0 it is the static Helmert step
-- of the same numbers, under the weakest premise. Assumes nothing.
use mathlib.Core.Path.{◌≡◌, refl, sym, ap, subst, ◌∙◌}
use mathlib.Core.Bool.{Bool, true, false, cond}
use lib.Ieee.{Float, binary64, of_bits, mul, div, eq, ne, round}
use lib.Ieee.Fits.{mul-fits}
use Rattle.floats.specs.Binary64.{◌⊗◌}
use Rattle.tuple.specs.declared.Tuple.{Tuple}
use Rattle.rotation.specs.declared.Vec3.{Vec3}
use Rattle.rotation.specs.Matrix.{rotate_of}
use Rattle.helmert.specs.declared.Shift.{Shift}
use Rattle.helmert.specs.declared.State.{State}
use Rattle.helmert.specs.declared.Stepped.{Stepped}
use Rattle.helmert.specs.Record.{zero3, mm_of, uas_of}
use Rattle.helmert.specs.Units.{zero as none, ppm, linear_scale_of, angular_scale_of, winner_of, lengths_of, angles_of, parameters_of}
use Rattle.helmert.specs.Rules.{some_of, dynamic_of, lacks_epoch_of}
use Rattle.helmert.specs.Apply.{position_of, forward_about_of, inverse_about_of}
use Rattle.helmert.specs.Modes.{prepare_of, start_of, fixed_step_of, time_varying_of, step_of, counted_of}
use Rattle.helmert.proofs.Laws.{step_in_static_or_fixed, fixed_without_pivot}
use Rattle.badekas.specs.declared.Badekas.{Badekas}
use Rattle.badekas.specs.Record.{helmert_of}
use Rattle.badekas.specs.Step.{about_of, shift_of}
use Rattle.badekas.specs.Asked.{times_of, matrix_of}
use Rattle.badekas.proofs.Zero.{Held, NotBoth, NoMinusZero, forward_without_pivot, inverse_without_pivot}

-- ---- never dynamic

no_length : (mm : Bool) → ne (linear_scale_of mm ⊗ winner_of none none) none ≡ false
unfolding winner_of ne eq mul of_bits round
no_length true = refl
no_length false = refl

no_angle : (uas : Bool) → ne (winner_of none none ⊗ angular_scale_of uas) none ≡ false
unfolding winner_of ne eq mul div of_bits round
no_angle true = refl
no_angle false = refl

no_scale : ne (winner_of none none ⊗ ppm) none ≡ false
unfolding winner_of ne eq mul of_bits round
no_scale = refl

not_dynamic : (r : Badekas) → dynamic_of (parameters_of (helmert_of r)) ≡ false
unfolding dynamic_of some_of parameters_of lengths_of angles_of helmert_of
not_dynamic r = rw (no_length (mm_of (helmert_of r)), no_angle (uas_of (helmert_of r)), no_scale)

-- the shift of the Helmert record with the same numbers
abbrev pub helmert_shift_of : Badekas → Shift
helmert_shift_of r = prepare_of (helmert_of r)

pub same_numbers_never_move : (r : Badekas) → time_varying_of (helmert_shift_of r) ≡ false
unfolding prepare_of
same_numbers_never_move r = rw (not_dynamic r)

pub never_moves : (r : Badekas) → time_varying_of (shift_of r) ≡ false
unfolding shift_of about_of
never_moves r = same_numbers_never_move r

-- the shift has no rate
pub shift_not_dynamic : (r : Badekas) → (shift_of r).dynamic ≡ false
unfolding shift_of about_of prepare_of
shift_not_dynamic r = not_dynamic r

-- so the Helmert record with the same numbers never breaks rule 7
pub never_lacks_epoch : (r : Badekas) → lacks_epoch_of (helmert_of r) ≡ false
unfolding lacks_epoch_of
never_lacks_epoch r = rw (not_dynamic r)

-- ---- the step

-- static, whatever state it is handed, and the state stays
pub step_is_static : (r : Badekas) (inv : Bool) (state : State) (v : Tuple)
    → step_of (shift_of r) inv state v ≡ record { state = state; tuple = fixed_step_of (shift_of r) inv v }
step_is_static r inv state v = step_in_static_or_fixed (shift_of r) inv state v (never_moves r)

-- every tuple counts
pub step_counts : (r : Badekas) (v : Tuple) → counted_of (shift_of r) v ≡ true
unfolding counted_of
step_counts r v = rw (never_moves r)

-- it starts with no last time and the sheet's T, as Helmert does
pub starts_alike : (r : Badekas) → start_of (shift_of r) ≡ start_of (helmert_shift_of r)
unfolding start_of shift_of about_of
starts_alike r = refl

-- the sequences as they are written, with T, S and the matrix of the Helmert record with the same
-- numbers and the pivot as the sheet has it, whatever the units
pub forward_as_written : (r : Badekas) (v : Tuple)
    → let q = helmert_shift_of r in
    fixed_step_of (shift_of r) false v ≡ forward_about_of r.pivot q.parameters.t q.parameters.s q.rotated (matrix_of q) v
unfolding fixed_step_of shift_of about_of
forward_as_written r v = refl

pub inverse_as_written : (r : Badekas) (v : Tuple)
    → let q = helmert_shift_of r in
    fixed_step_of (shift_of r) true v ≡ inverse_about_of r.pivot q.parameters.t q.parameters.s q.rotated (matrix_of q) v
unfolding fixed_step_of shift_of about_of
inverse_as_written r v = refl

-- ---- a pivot of zeros

the_sheets : (r : Badekas) → (helmert_shift_of r).parameters ≡ parameters_of (helmert_of r)
unfolding prepare_of
the_sheets r = rw (not_dynamic r)

lengths_held : (k : Float) (a b : Vec3) → Held (lengths_of k a b)
unfolding lengths_of
lengths_held k a b = (mul-fits binary64 k _, (mul-fits binary64 k _, mul-fits binary64 k _))

translation_held : (r : Badekas) → Held (parameters_of (helmert_of r)).t
unfolding parameters_of
translation_held r = lengths_held _ _ _

-- S·(M·v), before anything is added
abbrev pub scaled_of : Badekas → Tuple → Vec3
scaled_of r v =
    let q = helmert_shift_of r in
    times_of q.parameters.s (cond q.rotated (rotate_of (matrix_of q) (position_of v)) (position_of v))

pub no_pivot : (r : Badekas) → (helmert_shift_of r).pivoted ≡ false
unfolding prepare_of
no_pivot r = refl

fixed_forward : (r : Badekas) (v : Tuple) → r.pivot ≡ zero3 → Held (position_of v)
    → NotBoth (scaled_of r v) (helmert_shift_of r).parameters.t
    → fixed_step_of (shift_of r) false v ≡ fixed_step_of (helmert_shift_of r) false v
fixed_forward r v e h z =
    let q = helmert_shift_of r in
    let t = q.parameters.t in
    let s = q.parameters.s in
    forward_as_written r v
    ∙ ap (λ (p : Vec3). forward_about_of p t s q.rotated (matrix_of q) v) e
    ∙ forward_without_pivot t s q.rotated (matrix_of q) v h (rw (the_sheets r) (translation_held r)) z
    ∙ sym (fixed_without_pivot q false v (no_pivot r))

fixed_inverse : (r : Badekas) (v : Tuple) → r.pivot ≡ zero3
    → NoMinusZero (position_of (fixed_step_of (helmert_shift_of r) true v))
    → fixed_step_of (shift_of r) true v ≡ fixed_step_of (helmert_shift_of r) true v
fixed_inverse r v e z =
    let q = helmert_shift_of r in
    let t = q.parameters.t in
    let s = q.parameters.s in
    inverse_as_written r v
    ∙ ap (λ (p : Vec3). inverse_about_of p t s q.rotated (matrix_of q) v) e
    ∙ inverse_without_pivot t s q.rotated (matrix_of q) v (subst (λ (w : Tuple). NoMinusZero (position_of w)) (fixed_without_pivot q true v (no_pivot r)) z)
    ∙ sym (fixed_without_pivot q true v (no_pivot r))

stepped : State → Tuple → Stepped
stepped state w = record { state = state; tuple = w }

-- the whole step, whatever state it is handed, from the static one
whole : (r : Badekas) (inv : Bool) (state : State) (v : Tuple)
    → fixed_step_of (shift_of r) inv v ≡ fixed_step_of (helmert_shift_of r) inv v
    → step_of (shift_of r) inv state v ≡ step_of (helmert_shift_of r) inv state v
unfolding stepped
whole r inv state v e =
    step_is_static r inv state v
    ∙ ap (stepped state) e
    ∙ sym (step_in_static_or_fixed (helmert_shift_of r) inv state v (same_numbers_never_move r))

-- forward, the weakest premise: on no axis are both S·(M·v) and T -0
pub forward_is_helmert : (r : Badekas) (state : State) (v : Tuple) → r.pivot ≡ zero3 → Held (position_of v)
    → NotBoth (scaled_of r v) (helmert_shift_of r).parameters.t
    → step_of (shift_of r) false state v ≡ step_of (helmert_shift_of r) false state v
forward_is_helmert r state v e h z = whole r false state v (fixed_forward r v e h z)

-- inverse, the weakest premise: no axis of the Helmert result is -0
pub inverse_is_helmert : (r : Badekas) (state : State) (v : Tuple) → r.pivot ≡ zero3
    → NoMinusZero (position_of (fixed_step_of (helmert_shift_of r) true v))
    → step_of (shift_of r) true state v ≡ step_of (helmert_shift_of r) true state v
inverse_is_helmert r state v e z = whole r true state v (fixed_inverse r v e z)
