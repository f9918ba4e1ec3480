-- The geocentric latitude adds nothing to "met": of the five ellipsoids it is out of reach exactly
-- where the latitude is. Its angle is atan2 of a finite factor times the sine, and of the cosine;
-- in reach these are numbers, so it lies within ±π, and out of reach they are NaN. Assumes nothing.
use mathlib.Core.Path.{◌≡◌, refl, sym, ap, ◌∙◌}
use Prim.Native.Nat.{ℕ, zero, suc, ◌*◌, ◌-◌, ◌/◌, ◌%◌, ◌^◌, compare}
use native.Mathlib.Nat.{zero-lt-suc}
use mathlib.Core.Bool.{Bool, true, false, not, cond, true≢false}
use lib.Dec.{T, ltb, lt→ltb}
use lib.Ieee.{Float, nan, inf, fin, binary64, of_bits, is_nan, neg, add, sub, mul, div, sum, round, units, odd, unlike, up, down, size, nearest, eq, lt, le}
use lib.Ieee.Fits.{round_is}
use lib.Ieee.Scale.{finite}
use lib.Ieee.Positive.{positive, le_trans_positive}
use Rattle.floats.specs.Binary64.{◌⊖◌, ◌⊗◌, bits}
use Rattle.floats.specs.Number.{sign_of, abs_of}
use Rattle.floats.proofs.Laws.{neg-neg, abs_of_neg, abs_is_not_negative}
use Rattle.trig.specs.Trig.{reach, sin_of, cos_of, out_of_reach}
use Rattle.trig.specs.WithinOne.{WithinOne}
use Rattle.trig.proofs.Laws.{sine_within_one, sine_out_of_reach, cosine_is_nan_exactly_out_of_reach}
use Rattle.arctan.specs.Arctan.{atan2_of}
use Rattle.arctan.specs.Table.{half_pi, pi}
use Rattle.arctan.specs.Cases.{Between}
use Rattle.arctan.proofs.Parts.{nan_of_abs, zero_is_below}
use Rattle.arctan.proofs.Laws.{odd_in_y, from_zero_to_half_pi_if_x_is_not_negative, from_half_pi_to_pi_if_x_is_negative}
use Rattle.ellipsoid.specs.declared.Ellipsoid.{Ellipsoid}
use Rattle.ellipsoid.specs.Figure.{one, named_of, ellipsoid_of, geocentric_of}

-- the factor 1 - es of each of the five is finite
pub finite_factors :
    T (finite (one ⊖ (named_of 1).es)) × T (finite (one ⊖ (named_of 2).es)) × T (finite (one ⊖ (named_of 3).es))
    × T (finite (one ⊖ (named_of 4).es)) × T (finite (one ⊖ (named_of 5).es))
unfolding named_of ellipsoid_of of_bits neg add sub mul div sum round size
finite_factors = (tt, tt, tt, tt, tt)

-- a rounded number is no NaN
of_odd : (s : Bool) (q j : ℕ) → is_nan (odd 54 s q j 1074) ≡ false
unfolding odd is_nan
of_odd s zero j = refl
of_odd s (suc q) j = refl

of_units : (s : Bool) (q j : ℕ) → is_nan (units binary64 s q j) ≡ false
unfolding units is_nan
of_units s q j = go (ltb (q * 2 ^ j) (2 ^ 2098))
  where
    go : (t : Bool) → is_nan (cond t (odd 54 s q j 1074) (inf s)) ≡ false
    go true = of_odd s q j
    go false = refl

rounded : (s : Bool) (n d : ℕ) → is_nan (round binary64 s n d) ≡ false
rounded s n d =
    let w = n * 2 ^ 1074 in
    let k = size (w / d) - 53 in
    ap is_nan (round_is binary64 s n d) ∙ of_units s (nearest (w / (d * 2 ^ k)) (compare (w % (d * 2 ^ k) * 2) (d * 2 ^ k))) k

-- a product of finite numbers is a number
product : (a b : Float) → T (finite a) → T (finite b) → is_nan (a ⊗ b) ≡ false
unfolding mul
product (fin s m e) (fin t n d) f g = rounded (unlike s t) (m * up e * (n * up d)) (down e * down d)
product nan b f g = absurd f
product (inf s) b f g = absurd f
product (fin s m e) nan f g = absurd g
product (fin s m e) (inf t) f g = absurd g

within_is_finite : (s : Float) → WithinOne s → T (finite s)
unfolding le of_bits neg
within_is_finite nan h = absurd (true≢false (sym h.1))
within_is_finite (inf true) h = absurd (true≢false (sym h.0))
within_is_finite (inf false) h = absurd (true≢false (sym h.1))
within_is_finite (fin s m e) h = tt

half_is_positive : T (positive half_pi)
unfolding of_bits
half_is_positive = tt

pi_is_positive : T (positive pi)
unfolding of_bits
pi_is_positive = tt

half_in_reach : T (le half_pi reach)
unfolding of_bits le lt eq
half_in_reach = tt

pi_in_reach : T (le pi reach)
unfolding of_bits le lt eq
pi_in_reach = tt

-- what lies between two bounds, neither beyond π, is in reach
held : (b : Bool) → b ≡ true → T b
held b h = rw h tt

told : (b : Bool) → T b → b ≡ true
told true h = refl
told false h = absurd h

in_reach : (low high m : Float) → T (positive high) → T (le high reach) → Between low high m → le m reach ≡ true
unfolding le is_nan sign_of of_bits
in_reach low high nan p h b = absurd (true≢false b.number)
in_reach low high (inf true) p h b = absurd (true≢false b.unsigned)
in_reach low nan (inf false) p h b = absurd p
in_reach low (inf s) (inf false) p h b = absurd p
in_reach low (fin s n d) (inf false) p h b = absurd (true≢false (sym b.below))
in_reach low high (fin true m e) p h b = absurd (true≢false b.unsigned)
in_reach low high (fin false zero e) p h b = rw (zero_is_below _ e _)
in_reach low high (fin false (suc k) e) p h b =
    told _ (le_trans_positive (fin false (suc k) e) high reach (lt→ltb 0 (suc k) (zero-lt-suc k)) p tt (held _ b.below) h)

-- the angle of a number and a number is
module _ (y x : Float) (ny : is_nan y ≡ false) (nx : is_nan x ≡ false) where
  angle : Float
  angle = atan2_of (abs_of y) x

  unsigned-in-reach : (le angle reach ≡ true) × (sign_of angle ≡ false)
  unfolding angle
  unsigned-in-reach = by (sign_of x) refl
    where
      number : is_nan (abs_of y) ≡ false
      number = nan_of_abs y ∙ ny

      by : (s : Bool) → sign_of x ≡ s → (le (atan2_of (abs_of y) x) reach ≡ true) × (sign_of (atan2_of (abs_of y) x) ≡ false)
      by true e =
          let b = from_half_pi_to_pi_if_x_is_negative (abs_of y) x number nx (abs_is_not_negative y) e in
          (in_reach half_pi pi _ pi_is_positive pi_in_reach b, b.unsigned)
      by false e =
          let b = from_zero_to_half_pi_if_x_is_not_negative (abs_of y) x number nx (abs_is_not_negative y) e in
          (in_reach (bits 0) half_pi _ half_is_positive half_in_reach b, b.unsigned)

  angle-in-reach : le (abs_of (atan2_of y x)) reach ≡ true
  unfolding angle
  angle-in-reach = by (sign_of y) refl
    where
      near : (le (atan2_of (abs_of y) x) reach ≡ true) × (sign_of (atan2_of (abs_of y) x) ≡ false)
      near = unsigned-in-reach

      by : (s : Bool) → sign_of y ≡ s → le (abs_of (atan2_of y x)) reach ≡ true
      by true e =
          let turned : neg (abs_of y) ≡ y = rw e (neg-neg y) in
          ap (λ (v : Float). le (abs_of (atan2_of v x)) reach) (sym turned)
          ∙ ap (λ (v : Float). le (abs_of v) reach) (odd_in_y (abs_of y) x)
          ∙ ap (λ (v : Float). le v reach) (abs_of_neg (atan2_of (abs_of y) x) ∙ rw near.1)
          ∙ near.0
      by false e =
          let same : abs_of y ≡ y = rw e in
          ap (λ (v : Float). le (abs_of (atan2_of v x)) reach) (sym same) ∙ rw near.1 near.0

-- ---- the law

times-nan : (a : Float) → a ⊗ nan ≡ nan
unfolding mul
times-nan nan = refl
times-nan (inf s) = refl
times-nan (fin s m e) = refl

nan_angle : (c : Float) → atan2_of nan c ≡ nan
unfolding atan2_of is_nan
nan_angle c = refl

nan_is_out : not (le (abs_of nan) reach) ≡ true
unfolding le lt eq sign_of
nan_is_out = refl

pub geocentric_adds_nothing : (e : Ellipsoid) → T (finite (one ⊖ e.es)) → (phi : Float)
    → out_of_reach (geocentric_of e (sin_of phi) (cos_of phi)) ≡ out_of_reach phi
unfolding out_of_reach geocentric_of
geocentric_adds_nothing e k phi = by (le (abs_of phi) reach) refl
  where
    by : (near : Bool) → le (abs_of phi) reach ≡ near → not (le (abs_of (atan2_of ((one ⊖ e.es) ⊗ sin_of phi) (cos_of phi))) reach) ≡ not (le (abs_of phi) reach)
    by true h =
        let s = sine_within_one phi h in
        let c : is_nan (cos_of phi) ≡ false = cosine_is_nan_exactly_out_of_reach phi ∙ ap not h in
        let y = product (one ⊖ e.es) (sin_of phi) k (within_is_finite (sin_of phi) s) in
        ap not (angle-in-reach ((one ⊖ e.es) ⊗ sin_of phi) (cos_of phi) y c ∙ sym h)
    by false h =
        ap (λ (v : Float). not (le (abs_of (atan2_of ((one ⊖ e.es) ⊗ v) (cos_of phi))) reach)) (sine_out_of_reach phi h)
        ∙ ap (λ (v : Float). not (le (abs_of (atan2_of v (cos_of phi))) reach)) (times-nan (one ⊖ e.es))
        ∙ ap (λ (v : Float). not (le (abs_of v) reach)) (nan_angle (cos_of phi))
        ∙ nan_is_out
        ∙ ap not (sym h)
