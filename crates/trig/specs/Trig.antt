-- Sine and cosine, each a sequence of single roundings. An angle's magnitude a is k·π/32 + r with a
-- whole k and a small r; the table has sine and cosine of k·π/32, two short polynomials those of r,
-- and the theorems of addition join them.
use Rattle.std.specs.Prelude.{Bool, not, cond, Option, Some, None, Float}
use Rattle.std.specs.Float.{nan, binary64}
use Rattle.std.specs.Float.Ieee.{to_bits, neg, eq, lt, le}
use Rattle.floats.specs.Binary64.{◌⊕◌, ◌⊖◌, ◌⊗◌, bits}
use Rattle.floats.specs.Number.{sign_of, abs_of}
use Rattle.trig.specs.declared.SinCos.{SinCos}
use Rattle.trig.specs.declared.Reduced.{Reduced}
use Rattle.trig.specs.declared.Bends.{Bends}
use Rattle.trig.specs.Table.{row_of}

abbrev pub zero : Float
zero = bits 0

abbrev pub one : Float
one = bits 0x3ff0_0000_0000_0000

-- 1024, the largest angle in reach
abbrev pub reach : Float
reach = bits 0x4090_0000_0000_0000

-- 32/π, the steps in a radian
abbrev pub steps : Float
steps = bits 0x4024_5f30_6dc9_c883

-- 3·2^51: a sum with it is a whole number, which stands in the last bits of the sum
abbrev pub whole : Float
whole = bits 0x4338_0000_0000_0000

-- π/32 in three parts
abbrev pub step₁ : Float
step₁ = bits 0x3fb9_21fb_5444_4000

abbrev pub step₂ : Float
step₂ = bits 0xbd32_e7b9_6767_4000

abbrev pub step₃ : Float
step₃ = bits 0x3aa8_a2e0_3707_344a

-- The reduction: k, the steps in a to the nearest, in the last bits of `step`; a less k steps; and
-- what rounding took from that.
unfoldable pub reduced_of : Float → Reduced
reduced_of a =
    let t = a ⊗ steps ⊕ whole in
    let n = t ⊖ whole in
    let w = a ⊖ n ⊗ step₁ in
    let v = n ⊗ step₂ in
    let r = w ⊖ v in
    record { step = to_bits binary64 t; rest = r; tail = w ⊖ r ⊖ v ⊖ n ⊗ step₃ }

-- the coefficients of the sine's polynomial, from r³ on, and of the cosine's, from r² on
abbrev pub s₁ : Float
s₁ = bits 0xbfc5_5555_5555_53f9

abbrev pub s₂ : Float
s₂ = bits 0x3f81_1111_1059_1901

abbrev pub s₃ : Float
s₃ = bits 0xbf2a_012b_2329_4371

abbrev pub c₁ : Float
c₁ = bits 0xbfe0_0000_0000_0000

abbrev pub c₂ : Float
c₂ = bits 0x3fa5_5555_5555_54a9

abbrev pub c₃ : Float
c₃ = bits 0xbf56_c16c_161c_4a69

abbrev pub c₄ : Float
c₄ = bits 0x3efa_013d_e08a_d5f9

-- The two polynomials: sin r - r with the tail added, and cos r - 1.
unfoldable pub bend_of : Float → Float → Bends
bend_of r tail =
    let z = r ⊗ r in
    record {
      sine = tail ⊕ r ⊗ z ⊗ (s₁ ⊕ z ⊗ (s₂ ⊕ z ⊗ s₃));
      cosine = z ⊗ (c₁ ⊕ z ⊗ (c₂ ⊕ z ⊗ (c₃ ⊕ z ⊗ c₄)));
    }

-- The clamp: r, or the end of -1 to 1 that it lies beyond; of NaN it is 1.
unfoldable pub at_most_one : Float → Float
at_most_one r = cond (lt r one) r one

unfoldable pub clamp_of : Float → Float
clamp_of r = cond (lt (neg one) (at_most_one r)) (at_most_one r) (neg one)

-- The theorems of addition for both: f(A + r) = f(A)·cos r + f'(A)·sin r, where f(A) is high + low,
-- f'(A) is slope, and b is what sine and cosine of r have beyond r and beyond 1.
unfoldable pub sum_of : Float → Float → Float → Float → Bends → Float
sum_of high low slope r b = clamp_of (high ⊕ (slope ⊗ r ⊕ (slope ⊗ b.sine ⊕ (high ⊗ b.cosine ⊕ low))))

-- sine and cosine of a magnitude in reach: the slope of the sine is the cosine, that of the cosine
-- the sine turned
unfoldable pub sine_of : Float → Float
sine_of a =
    let g = reduced_of a in
    let w = row_of g.step in
    sum_of w.0 w.1 w.2 g.rest (bend_of g.rest g.tail)

unfoldable pub cosine_of : Float → Float
cosine_of a =
    let g = reduced_of a in
    let w = row_of g.step in
    sum_of w.2 w.3 (neg w.0) g.rest (bend_of g.rest g.tail)

-- both
abbrev pub pair_of : Float → SinCos
pair_of a = record { s = sine_of a; c = cosine_of a }

-- s, turned where x carries a minus sign
unfoldable pub signed_of : Float → Float → Float
signed_of s x = cond (sign_of x) (neg s) s

-- s, turned where x is below zero
unfoldable pub mirrored_of : Float → Float → Float
mirrored_of s x = cond (lt x zero) (neg s) s

-- The sine of x: a zero is its own; out of reach, and of NaN, it is NaN; else that of |x|, with the
-- sign of x.
unfoldable pub sin_of : Float → Float
sin_of x = cond (eq x zero) x (cond (le (abs_of x) reach) (signed_of (sine_of (abs_of x)) x) nan)

-- The cosine of x: of a zero 1; out of reach, and of NaN, NaN; else that of |x|.
unfoldable pub cos_of : Float → Float
cos_of x = cond (eq x zero) one (cond (le (abs_of x) reach) (cosine_of (abs_of x)) nan)

-- sine and cosine of x
abbrev pub sin_cos_of : Float → SinCos
sin_cos_of x = record { s = sin_of x; c = cos_of x }

-- ---- the kernel's answer: the pair of numbers, or out of reach

-- An angle is out of reach exactly where it is not finite or beyond ±1024: its magnitude is then
-- not at most 1024.
unfoldable pub out_of_reach : Float → Bool
out_of_reach x = not (le (abs_of x) reach)

-- Either the pair of numbers or "out of reach", which is None, the latter exactly for an angle not
-- finite or beyond ±1024.
unfoldable pub angle_of : Float → Option SinCos
angle_of x = cond (out_of_reach x) None (Some (sin_cos_of x))

-- the numbers that a sequence of roundings goes on with: out of reach, two NaNs
abbrev pub numbers_of : Option SinCos → SinCos
numbers_of (Some p) = p
numbers_of None = record { s = nan; c = nan }
