-- One case for each way through the tests. Each by `no_nan_of`, `infinite`, `none` and `some`, from
-- what the calls ensure. Assumes nothing.
use Rattle.std.proofs.Common.{◌≡◌, ℕ, zero, suc, ◌*◌, ◌^◌, ◌<◌, ◌≤◌, true, false, T, sym, refl, ap, ◌∙◌, subst, inl, inr, le_of_eq, lt_of_lt_of_le, lt_irrefl, mul-pos, zero-mul, arith, pow_pos}
use lib.Ieee.{Float, nan, inf, fin, binary64, fits, of_bits, to_bits, div, ne, up}
use lib.Ieee.Bits.{of_bits-to_bits, to_bits-lt}
use lib.Ieee.Compare.{differs_from_itself}
use lib.Ieee.Exact.{HasValue}
use lib.Ieee.Fits.{down_pos}
use lib.Ieee.Positive.{first_pos}
use Rattle.root.specs.Sqrt.{CorrectRoot, RoundedRoot, sqrt_of}
use Rattle.root.specs.Whole.{Significand}
use Rattle.root.proofs.Patterns.{no_nan_of, Below, infinite, none, some, negative_patterns, top_patterns}
use Rattle.root.proofs.Rounded.{definition_is_correct, no_choice}
use Rattle.root.proofs.from_guess.Goals as goal

-- zero by zero
no_number : div binary64 (of_bits binary64 0) (of_bits binary64 0) ≡ nan
unfolding div of_bits
no_number = refl

of_positive : (x r : Float) (n : ℕ) → HasValue x false n (2 ^ 1074) → 0 < n → RoundedRoot (n * 2 ^ 1074) r → CorrectRoot x r
unfolding CorrectRoot
of_positive nan r n v h w = absurd v
of_positive (inf s) r n v h w = absurd v
of_positive (fin s zero e) r n v h w = absurd (lt_irrefl 0 (lt_of_lt_of_le (mul-pos h (down_pos e)) (le_of_eq (sym v.1 ∙ nothing))))
  where
    nothing : zero * up e * 2 ^ 1074 ≡ 0
    nothing = ap (λ (z : ℕ). z * 2 ^ 1074) (zero-mul (up e)) ∙ zero-mul (2 ^ 1074)
of_positive (fin true (suc m) e) r n v h w = absurd (differ v.0)
  where
    differ : true ≡ false → ⊥
    differ p = subst T p tt
of_positive (fin false (suc m) e) r n v h w = (n, v, w)

of-below : (x : Float) → Below x → sqrt_of x ≡ nan
unfolding sqrt_of
of-below x infinite = refl
of-below x none = refl
of-below x some = refl

of-top : (b : ℕ) → 9218868437227405312 ≤ b → b ≤ 9223372036854775808 → of_bits binary64 b ≡ sqrt_of (of_bits binary64 b)
unfolding sqrt_of
of-top b h k = elim (top_patterns b h k) [
  | inl e ↦ e ∙ sym (ap sqrt_of e)
  | inr (inl e) ↦ e ∙ sym (ap sqrt_of e)
  | inr (inr e) ↦ e ∙ sym (ap sqrt_of e)
]

of-plus-zero : of_bits binary64 0 ≡ sqrt_of (of_bits binary64 0)
unfolding sqrt_of of_bits
of-plus-zero = refl

of_nan : (x : Float) → ne x x ≡ true → x ≡ sqrt_of x
unfolding sqrt_of
of_nan x e = let n : x ≡ nan = differs_from_itself x (subst T (sym e) tt) in n ∙ sym (ap sqrt_of n)

-- what every test shows: a number that meets the statement is the definition's
module _ (x : Float) (held : T (fits binary64 x)) where
  back : of_bits binary64 (to_bits binary64 x) ≡ x
  back = of_bits-to_bits binary64 x held

  is-root : (r : Float) → CorrectRoot x r → r ≡ sqrt_of x
  is-root r w = no_choice x r (sqrt_of x) w (definition_is_correct x held)

  at-number : (r : Float) (a k : ℕ) → Significand (to_bits binary64 x) a k → RoundedRoot (a * 2 ^ 52 * (2 ^ k * 2 ^ k)) r → r ≡ sqrt_of x
  at-number r a k d w =
      let a-pos : 0 < a = omega (arith, d.low) in
      let n_pos : 0 < d.n = first_pos d.n (2 ^ 1074) (lt_of_lt_of_le (mul-pos (mul-pos a-pos (pow_pos 52)) (mul-pos (pow_pos k) (pow_pos k))) (le_of_eq d.same)) in
      is-root r (of_positive x r d.n (subst (λ (y : Float). HasValue y false d.n (2 ^ 1074)) back d.value) n_pos (subst (λ (z : ℕ). RoundedRoot z r) d.same w))

  at_top : 9218868437227405312 ≤ to_bits binary64 x → to_bits binary64 x ≤ 9223372036854775808 → x ≡ sqrt_of x
  at_top h k = subst (λ (y : Float). y ≡ sqrt_of y) back (of-top (to_bits binary64 x) h k)

  at_zero : to_bits binary64 x ≡ 0 → x ≡ sqrt_of x
  at_zero e = subst (λ (y : Float). y ≡ sqrt_of y) (sym (ap (λ (n : ℕ). of_bits binary64 n) e) ∙ back) of-plus-zero

  at-negative : 9223372036854775808 < to_bits binary64 x → div binary64 (of_bits binary64 0) (of_bits binary64 0) ≡ sqrt_of x
  at-negative h = no_number ∙ sym (of-below x (subst Below back (negative_patterns (to_bits binary64 x) h (to_bits-lt binary64 x held))))

pub returns-then-x : goal.returns-then-x
returns-then-x c = of_nan c.args.x c.if-x.true

pub float_to_bits-b : goal.float_to_bits-b
float_to_bits-b c = no_nan_of c.args.x c.if-x.false

pub returns-then-wrapping_sub_u64-lt9214364837600034816 : goal.returns-then-wrapping_sub_u64-lt9214364837600034816
returns-then-wrapping_sub_u64-lt9214364837600034816 c =
    at-number c.args.x (subst T (sym c.well_formed.0.1) tt) c.nearest.result c.normal-c.result.a c.normal-c.result.k c.normal-c.ensures c.nearest.ensures

pub returns-then-b-le9223372036854775808 : goal.returns-then-b-le9223372036854775808
returns-then-b-le9223372036854775808 c =
    at_top c.args.x (subst T (sym c.well_formed.0.1) tt) (omega arith) (omega arith)

pub returns-then-b-ge9218868437227405312 : goal.returns-then-b-ge9218868437227405312
returns-then-b-ge9218868437227405312 c =
    at-negative c.args.x (subst T (sym c.well_formed.0.1) tt) (omega arith)

pub returns-then-b-eq0 : goal.returns-then-b-eq0
returns-then-b-eq0 c =
    at_zero c.args.x (subst T (sym c.well_formed.0.1) tt) c.if-b-eq0.true

pub returns : goal.returns
returns c =
    at-number c.args.x (subst T (sym c.well_formed.0.1) tt) c.slow.result c.subnormal-c.result.a c.subnormal-c.result.k c.subnormal-c.ensures c.slow.ensures
