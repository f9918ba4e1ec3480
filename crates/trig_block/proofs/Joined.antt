-- What the loops over a block hand to one another gives the sine and the cosine of each angle.
-- Assumes nothing.
use Prim.Native.Nat.{ℕ}
use mathlib.Core.Path.{◌≡◌, refl, sym, ◌∙◌}
use mathlib.Core.Bool.{Bool, true, false, cond, true≢false}
use lib.Ieee.{Float, nan, inf, fin, is_nan, eq, lt, le}
use Rattle.floats.specs.Binary64.{bits}
use Rattle.floats.specs.Number.{sign_of, abs_of}
use Rattle.floats.proofs.Nan.{differs_exactly_if_nan}
use Rattle.floats.proofs.Zero.{sign_of_other}
use Rattle.trig.specs.declared.Row.{Row}
use Rattle.trig.specs.Table.{row_of}
use Rattle.trig.specs.Trig.{one, reach, sine_of, cosine_of, signed_of, mirrored_of, sin_of, cos_of, sin_cos_of}
use Rattle.trig_block.specs.Block.{number_of, step_of, rest_of, tail_of, usual_of, sin_from, cos_from, usual_from, both_from}

-- ---- any angle

-- what is in reach is a number
number_in_reach : (x : Float) → le (abs_of x) reach ≡ true → number_of x ≡ x
unfolding number_of sign_of le lt eq is_nan
number_in_reach nan near = absurd (true≢false (sym near))
number_in_reach (inf s) near = rw (differs_exactly_if_nan (inf s))
number_in_reach (fin s m e) near = rw (differs_exactly_if_nan (fin s m e))

-- so the sums of the number are those of the angle, wherever they are asked for
sine_of_number : (x : Float) → sin_from x (sine_of (abs_of (number_of x))) ≡ sin_of x
unfolding sin_from sin_of
sine_of_number x = go (le (abs_of x) reach) refl
  where
    go : (near : Bool) → le (abs_of x) reach ≡ near → cond (eq x (bits 0)) x (cond near (signed_of (sine_of (abs_of (number_of x))) x) nan) ≡ cond (eq x (bits 0)) x (cond near (signed_of (sine_of (abs_of x)) x) nan)
    go true h = rw (number_in_reach x h)
    go false h = refl

cosine_of_number : (x : Float) → cos_from x (cosine_of (abs_of (number_of x))) ≡ cos_of x
unfolding cos_from cos_of
cosine_of_number x = go (le (abs_of x) reach) refl
  where
    go : (near : Bool) → le (abs_of x) reach ≡ near → cond (eq x (bits 0)) one (cond near (cosine_of (abs_of (number_of x))) nan) ≡ cond (eq x (bits 0)) one (cond near (cosine_of (abs_of x)) nan)
    go true h = rw (number_in_reach x h)
    go false h = refl

pub joined :
    (x : Float) {k : ℕ} {r tail sh sl ch cl : Float} →
    k ≡ step_of x → r ≡ rest_of x → tail ≡ tail_of x →
    sh ≡ (row_of k).0 → sl ≡ (row_of k).1 → ch ≡ (row_of k).2 → cl ≡ (row_of k).3 →
    both_from x r tail (record { 0 = sh; 1 = sl; 2 = ch; 3 = cl }) ≡ sin_cos_of x
unfolding sine_of cosine_of
joined x step rest tail high low high' low' = rw (high, low, high', low', step, rest, tail, sine_of_number x, cosine_of_number x)

-- ---- a usual angle

usual_parts : (x : Float) → usual_of x ≡ true → (eq x (bits 0) ≡ false) × (le (abs_of x) reach ≡ true)
unfolding usual_of
usual_parts x h = go (eq x (bits 0)) h
  where
    go : (z : Bool) → cond z false (le (abs_of x) reach) ≡ true → (z ≡ false) × (le (abs_of x) reach ≡ true)
    go true k = absurd (true≢false (sym k))
    go false k = (refl, k)

-- its choices are made: it is not zero, so that being below zero tells its sign, and it is in reach
usual_is_both : (x r tail : Float) (w : Row) → usual_of x ≡ true → usual_from x r tail w ≡ both_from x r tail w
unfolding sin_from cos_from signed_of mirrored_of
usual_is_both x r tail w h =
    let p = usual_parts x h in
    rw (sign_of_other x p.0, p.0, p.1)

pub joined_usual :
    (x : Float) {k : ℕ} {r tail sh sl ch cl : Float} →
    usual_of x ≡ true →
    k ≡ step_of x → r ≡ rest_of x → tail ≡ tail_of x →
    sh ≡ (row_of k).0 → sl ≡ (row_of k).1 → ch ≡ (row_of k).2 → cl ≡ (row_of k).3 →
    usual_from x r tail (record { 0 = sh; 1 = sl; 2 = ch; 3 = cl }) ≡ sin_cos_of x
joined_usual x {k} {r} {tail} {sh} {sl} {ch} {cl} usual step rest end high low high' low' =
    usual_is_both x r tail (record { 0 = sh; 1 = sl; 2 = ch; 3 = cl }) usual ∙ joined x step rest end high low high' low'
