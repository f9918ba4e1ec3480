-- What is true of sine and cosine, at every binary64 number unless it says otherwise, for callers
-- to cite. Assumes nothing.
use mathlib.Core.Path.{◌≡◌, refl, sym, ◌∙◌, ap}
use Prim.Native.Nat.{ℕ, zero, suc, ◌+◌, ◌*◌, ◌<◌}
use native.Mathlib.Nat.{add_comm, zero-mul, mul-pos, zero-lt-suc}
use native.Mathlib.Omega.{arith}
use mathlib.Core.Bool.{Bool, true, false, not, cond, true≢false}
use Rattle.std.specs.Prelude.{Option, Some, None}
use borrow.Author.Tests.{lt-ltb}
use lib.IntN.{ℤ, pos}
use lib.Ieee.{Float, nan, inf, fin, of_bits, is_nan, neg, eq, lt, le, up, down}
use lib.Ieee.Fits.{up_pos, down_pos}
use Rattle.floats.specs.Binary64.{bits}
use Rattle.floats.specs.Number.{sign_of, abs_of}
use Rattle.floats.proofs.Zero.{equals_zero, differs_from_zero}
use Rattle.floats.proofs.Laws.{neg-neg, abs_of_neg}
use Rattle.trig.specs.declared.SinCos.{SinCos}
use Rattle.trig.specs.WithinOne.{WithinOne}
use Rattle.trig.specs.Trig.{one, reach, at_most_one, clamp_of, sum_of, sine_of, cosine_of, signed_of, sin_of, cos_of, sin_cos_of, out_of_reach, angle_of, numbers_of}

-- ---- zeros, either way round

abbrev is_zero : Float → Bool
is_zero x = eq x (bits 0)

zero_either_way : (x : Float) → is_zero (neg x) ≡ is_zero x
unfolding eq neg of_bits
zero_either_way nan = refl
zero_either_way (inf s) = refl
zero_either_way (fin s zero e) = equals_zero (not s) e ∙ sym (equals_zero s e)
zero_either_way (fin s (suc m) e) = differs_from_zero (not s) m e ∙ sym (differs_from_zero s m e)

-- a property of every zero holds of each number that equals 0
at_zero : (P : Float → Type 0) → ((s : Bool) (e : ℤ) → P (fin s zero e)) → (x : Float) → is_zero x ≡ true → P x
unfolding eq of_bits
at_zero P p nan h = absurd (true≢false (sym h))
at_zero P p (inf s) h = absurd (true≢false (sym h))
at_zero P p (fin s zero e) h = p s e
at_zero P p (fin s (suc m) e) h = absurd (true≢false (sym h ∙ differs_from_zero s m e))

positive : (e : ℤ) (n : ℕ) (d : ℤ) → 0 < suc n * up d * down e
positive e n d = mul-pos (mul-pos (zero-lt-suc n) (up_pos d)) (down_pos e)

-- a zero lies below a positive number
zero_is_less : (s : Bool) (e : ℤ) (n : ℕ) (d : ℤ) → lt (fin s zero e) (fin false (suc n) d) ≡ true
unfolding lt
zero_is_less true e n d = lt-ltb 0 (0 * up e * down d + suc n * up d * down e) (let p = positive e n d in omega arith)
zero_is_less false e n d =
    lt-ltb (0 * up e * down d) (suc n * up d * down e) (rw (zero-mul (up e), zero-mul (down d)) (positive e n d))

-- ---- within -1 to 1

less_is_at_most : (x y : Float) → lt x y ≡ true → le x y ≡ true
unfolding le
less_is_at_most x y h = rw h

-- turning both signs turns an order round
less_turns : (x y : Float) → lt x y ≡ true → lt (neg y) (neg x) ≡ true
unfolding lt neg
less_turns nan y h = absurd (true≢false (sym h))
less_turns (inf true) nan h = absurd (true≢false (sym h))
less_turns (inf true) (inf true) h = absurd (true≢false (sym h))
less_turns (inf true) (inf false) h = refl
less_turns (inf true) (fin t n d) h = refl
less_turns (inf false) nan h = absurd (true≢false (sym h))
less_turns (inf false) (inf t) h = absurd (true≢false (sym h))
less_turns (inf false) (fin t n d) h = absurd (true≢false (sym h))
less_turns (fin s m e) nan h = absurd (true≢false (sym h))
less_turns (fin s m e) (inf true) h = absurd (true≢false (sym h))
less_turns (fin s m e) (inf false) h = refl
less_turns (fin true m e) (fin true n d) h = h
less_turns (fin true m e) (fin false n d) h = rw (add_comm (n * up d * down e) (m * up e * down d)) h
less_turns (fin false m e) (fin true n d) h = absurd (true≢false (sym h))
less_turns (fin false m e) (fin false n d) h = h

-- what holds of 1, of -1 and of every number between holds of what the clamp gives, for a NaN too
clamped : (P : Float → Type 0) → P one → P (neg one) → ((r : Float) → lt (neg one) r ≡ true → lt r one ≡ true → P r) → (r : Float) → P (clamp_of r)
unfolding clamp_of at_most_one
clamped P top bottom between r = go (lt r one) (lt (neg one) (cond (lt r one) r one)) refl refl
  where
    go : (a b : Bool) → lt r one ≡ a → lt (neg one) (cond a r one) ≡ b → P (cond b (cond a r one) (neg one))
    go true true h k = between r k h
    go false true h k = top
    go a false h k = bottom

-- a clamped number and its opposite
clamp_within : (r : Float) → WithinOne (clamp_of r) × WithinOne (neg (clamp_of r))
unfolding le lt eq of_bits neg
clamp_within =
    clamped (λ (q : Float). WithinOne q × WithinOne (neg q)) ((refl, refl), (refl, refl)) ((refl, refl), (refl, refl))
    (λ r low high. ((less_is_at_most (neg one) r low, less_is_at_most r one high), (less_is_at_most (neg one) (neg r) (less_turns r one high), less_is_at_most (neg r) one (less_turns (neg one) r low))))

zero-within : (x : Float) → is_zero x ≡ true → WithinOne x
unfolding of_bits neg
zero-within = at_zero WithinOne within
  where
    within : (s : Bool) (e : ℤ) → WithinOne (fin s zero e)
    within true e = (
      less_is_at_most (neg one) (fin true zero e) (less_turns (fin false zero e) one (zero_is_less false e 0 (pos 0))),
      less_is_at_most (fin true zero e) one (zero_is_less true e 0 (pos 0)),
    )
    within false e = (
      less_is_at_most (neg one) (fin false zero e) (less_turns (fin true zero e) one (zero_is_less true e 0 (pos 0))),
      less_is_at_most (fin false zero e) one (zero_is_less false e 0 (pos 0)),
    )

-- Sine and cosine of an angle in reach lie within -1 to 1.
pub sine_within_one : (x : Float) → le (abs_of x) reach ≡ true → WithinOne (sin_of x)
unfolding sin_of signed_of sine_of sum_of
sine_within_one x near = rw near (go (is_zero x) (sign_of x) refl)
  where
    go : (z s : Bool) → is_zero x ≡ z → WithinOne (cond z x (cond s (neg (sine_of (abs_of x))) (sine_of (abs_of x))))
    go true s h = zero-within x h
    go false true h = (clamp_within _).1
    go false false h = (clamp_within _).0

pub cosine_within_one : (x : Float) → le (abs_of x) reach ≡ true → WithinOne (cos_of x)
unfolding cos_of cosine_of sum_of le lt eq of_bits neg
cosine_within_one x near = rw near (go (is_zero x))
  where
    go : (z : Bool) → WithinOne (cond z one (cosine_of (abs_of x)))
    go true = (refl, refl)
    go false = (clamp_within _).0

-- ---- zeros

pub sine_keeps_zero : (x : Float) → eq x (bits 0) ≡ true → sin_of x ≡ x
unfolding sin_of
sine_keeps_zero x h = rw h

pub cosine_of_zero_is_one : (x : Float) → eq x (bits 0) ≡ true → cos_of x ≡ one
unfolding cos_of
cosine_of_zero_is_one x h = rw h

-- ---- NaN

pub zero_in_reach : (x : Float) → is_zero x ≡ true → le (abs_of x) reach ≡ true
unfolding of_bits neg sign_of
zero_in_reach = at_zero (λ (x : Float). le (abs_of x) reach ≡ true) near
  where
    near : (s : Bool) (e : ℤ) → le (abs_of (fin s zero e)) reach ≡ true
    near true e = less_is_at_most (fin false zero e) reach (zero_is_less false e 0 (pos 10))
    near false e = less_is_at_most (fin false zero e) reach (zero_is_less false e 0 (pos 10))

-- so what is out of reach is no zero
far_from_zero : (x : Float) → le (abs_of x) reach ≡ false → is_zero x ≡ false
far_from_zero x far = go (is_zero x) refl
  where
    go : (z : Bool) → is_zero x ≡ z → z ≡ false
    go true h = absurd (true≢false (sym (zero_in_reach x h) ∙ far))
    go false h = refl

ordered_is_no_nan : (r : Float) → le r one ≡ true → is_nan r ≡ false
unfolding is_nan le lt eq
ordered_is_no_nan nan h = absurd (true≢false (sym h))
ordered_is_no_nan (inf s) h = refl
ordered_is_no_nan (fin s m e) h = refl

pub sine_out_of_reach : (x : Float) → le (abs_of x) reach ≡ false → sin_of x ≡ nan
unfolding sin_of
sine_out_of_reach x far = rw (far_from_zero x far, far)

pub cosine_out_of_reach : (x : Float) → le (abs_of x) reach ≡ false → cos_of x ≡ nan
unfolding cos_of
cosine_out_of_reach x far = rw (far_from_zero x far, far)

nan_exactly : (r : Float) (near : Bool) → (near ≡ true → WithinOne r) → (near ≡ false → r ≡ nan) → is_nan r ≡ not near
unfolding is_nan
nan_exactly r true within out = ordered_is_no_nan r (within refl).1
nan_exactly r false within out = rw (out refl)

-- Sine and cosine are NaN exactly where the angle is out of reach: beyond ±1024, infinite, or NaN.
pub sine_is_nan_exactly_out_of_reach : (x : Float) → is_nan (sin_of x) ≡ not (le (abs_of x) reach)
sine_is_nan_exactly_out_of_reach x = nan_exactly (sin_of x) (le (abs_of x) reach) (sine_within_one x) (sine_out_of_reach x)

pub cosine_is_nan_exactly_out_of_reach : (x : Float) → is_nan (cos_of x) ≡ not (le (abs_of x) reach)
cosine_is_nan_exactly_out_of_reach x = nan_exactly (cos_of x) (le (abs_of x) reach) (cosine_within_one x) (cosine_out_of_reach x)

-- ---- odd and even

-- of every number that has a sign to turn
signed_turns : (q x : Float) → sign_of (neg x) ≡ not (sign_of x) → signed_of q (neg x) ≡ neg (signed_of q x)
unfolding signed_of
signed_turns q x h = rw h (go (sign_of x))
  where
    go : (s : Bool) → cond (not s) (neg q) q ≡ neg (cond s (neg q) q)
    go true = sym (neg-neg q)
    go false = refl

sine_turns : (x : Float) → sign_of (neg x) ≡ not (sign_of x) → sin_of (neg x) ≡ neg (sin_of x)
unfolding sin_of neg
sine_turns x h = rw (zero_either_way x, abs_of_neg x, signed_turns (sine_of (abs_of x)) x h) (go (is_zero x) (le (abs_of x) reach))
  where
    go : (z near : Bool) → cond z (neg x) (cond near (neg (signed_of (sine_of (abs_of x)) x)) nan) ≡ neg (cond z x (cond near (signed_of (sine_of (abs_of x)) x) nan))
    go true near = refl
    go false true = refl
    go false false = refl

sine_of_nan : sin_of nan ≡ nan
unfolding sin_of sign_of eq le lt
sine_of_nan = refl

pub sine_is_odd : (x : Float) → sin_of (neg x) ≡ neg (sin_of x)
unfolding sign_of neg
sine_is_odd nan = sine_of_nan ∙ sym (ap neg sine_of_nan)
sine_is_odd (inf s) = sine_turns (inf s) refl
sine_is_odd (fin s m e) = sine_turns (fin s m e) refl

pub cosine_is_even : (x : Float) → cos_of (neg x) ≡ cos_of x
unfolding cos_of
cosine_is_even x = rw (zero_either_way x, abs_of_neg x)

-- ---- the pair

pub pair_has_the_sine : (x : Float) → (sin_cos_of x).s ≡ sin_of x
pair_has_the_sine x = refl

pub pair_has_the_cosine : (x : Float) → (sin_cos_of x).c ≡ cos_of x
pair_has_the_cosine x = refl

-- ---- the answer

-- out of reach is where the magnitude is not at most 1024
pub out_told : (x : Float) → out_of_reach x ≡ true → le (abs_of x) reach ≡ false
unfolding out_of_reach
out_told x h = flip (le (abs_of x) reach) h
  where
    flip : (b : Bool) → not b ≡ true → b ≡ false
    flip true e = sym e
    flip false e = refl

-- its numbers are those of the pair, out of reach too
pub numbers_of_angle : (x : Float) → numbers_of (angle_of x) ≡ sin_cos_of x
unfolding angle_of
numbers_of_angle x = go (out_of_reach x) refl
  where
    go : (out : Bool) → out_of_reach x ≡ out → numbers_of (cond out None (Some (sin_cos_of x))) ≡ sin_cos_of x
    go true h = rw (sine_out_of_reach x (out_told x h), cosine_out_of_reach x (out_told x h))
    go false h = refl

-- it is "out of reach" exactly for an angle not finite or beyond ±1024
abbrev pub is_out : Option SinCos → Bool
is_out (Some p) = false
is_out None = true

pub out_exactly : (x : Float) → is_out (angle_of x) ≡ out_of_reach x
unfolding angle_of
out_exactly x = go (out_of_reach x)
  where
    go : (out : Bool) → is_out (cond out None (Some (sin_cos_of x))) ≡ out
    go true = refl
    go false = refl

-- which is where the sine is NaN, and the cosine: what a block, which hands numbers on, has for a
-- mark
pub out_where_sine_is_nan : (x : Float) → is_nan (sin_of x) ≡ out_of_reach x
unfolding out_of_reach
out_where_sine_is_nan x = sine_is_nan_exactly_out_of_reach x

pub out_where_cosine_is_nan : (x : Float) → is_nan (cos_of x) ≡ out_of_reach x
unfolding out_of_reach
out_where_cosine_is_nan x = cosine_is_nan_exactly_out_of_reach x
