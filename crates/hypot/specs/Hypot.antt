-- hypot: the length √(x² + y²), as a sequence of single roundings.
use Rattle.std.specs.Prelude.{Option, Some, None, ◌-◌, ◌/◌, ◌%◌, Bool, true, false, cond, ◌&&◌, ◌||◌, Float}
use Rattle.std.specs.Float.{nan, inf, fin, binary64}
use Rattle.std.specs.Float.Ieee.{to_bits, lt}
use Rattle.floats.specs.Binary64.{◌⊕◌, ◌⊖◌, ◌⊗◌, bits}
use Rattle.floats.specs.Number.{abs_of}

abbrev pub half : Float
half = bits 0x3fe0_0000_0000_0000

abbrev pub one : Float
one = bits 0x3ff0_0000_0000_0000

-- 2⁶⁰⁰ and 2⁻⁶⁰⁰
abbrev pub up600 : Float
up600 = bits 0x6570_0000_0000_0000

abbrev pub down600 : Float
down600 = bits 0x1a70_0000_0000_0000

unfoldable pub infinite : Float → Bool
infinite nan = false
infinite (inf s) = true
infinite (fin s m e) = false

-- of two magnitudes, the larger and the other
unfoldable pub larger : Float → Float → Float
larger a b = cond (lt a b) b a

unfoldable pub smaller : Float → Float → Float
smaller a b = cond (lt a b) a b

-- a² + b²
unfoldable pub squares_of : Float → Float → Float
squares_of a b = a ⊗ a ⊕ b ⊗ b

-- whether a sum of squares is far from overflow and underflow: between 2⁻⁹⁰⁰ and 2¹⁰⁰⁰
unfoldable pub ordinary : Float → Bool
ordinary s = lt (bits 0x07b0_0000_0000_0000) s && lt s (bits 0x7e70_0000_0000_0000)

-- 1/√s within 3.5 %: half of the bits of s, taken from a constant
unfoldable pub guess_of : Float → Float
guess_of s = bits (0x5fe6_e8f0_0000_0000 - to_bits binary64 s % 0x8000_0000_0000_0000 / 2)

-- 1/√(1 - e) within 10⁻⁹ for |e| up to 0.0682: 1 + e/2 and four terms more
unfoldable pub reciprocal_root_of : Float → Float
reciprocal_root_of e =
    let e² = e ⊗ e in
    one ⊕ half ⊗ e ⊕ (bits 0x3fd7_fff7_02d5_97e2 ⊕ bits 0x3fd3_fff5_fad2_7a6d ⊗ e) ⊗ e²
    ⊕ (bits 0x3fd1_9826_255b_aa3a ⊕ bits 0x3fcf_b010_e328_363f ⊗ e) ⊗ (e² ⊗ e²)

-- √s for s = a² + b²: the guess, bettered by the polynomial, and then by what a² + b² exceeds its
-- square by, which is b² - (root - a)·(root + a)
unfoldable pub root_of : Float → Float → Float → Float
root_of s a b =
    let guess = guess_of s in
    let near = s ⊗ guess in
    let factor = reciprocal_root_of (one ⊖ near ⊗ guess) in
    let root = near ⊗ factor in
    root ⊕ half ⊗ guess ⊗ factor ⊗ (b ⊗ b ⊖ (root ⊖ a) ⊗ (root ⊕ a))

-- the root of parts that were multiplied by `scale`, multiplied back
unfoldable pub scaled_root_of : Float → Float → Float → Float → Float
scaled_root_of scale back a b = root_of (squares_of (a ⊗ scale) (b ⊗ scale)) (a ⊗ scale) (b ⊗ scale) ⊗ back

-- the scale: 2⁻⁶⁰⁰ if the larger part is above 1, else 2⁶⁰⁰
unfoldable pub rescaled_of : Float → Float → Float
rescaled_of a b = cond (lt one a) (scaled_root_of down600 up600 a b) (scaled_root_of up600 down600 a b)

-- Neither the squares nor their sum overflow or underflow: parts whose squares would are scaled
-- first.
unfoldable pub length_of : Float → Float → Float
length_of a b = cond (ordinary (squares_of a b)) (root_of (squares_of a b) a b) (rescaled_of a b)

-- A length is at most the sum of its parts and at least the larger of them. Rounding keeps both, so
-- this changes no good answer; it is NaN exactly where a or b is.
unfoldable pub bounded_of : Float → Float → Float → Float
bounded_of a b length = cond (lt length (a ⊕ b)) (cond (lt a length) length a) (a ⊕ b)

-- the length of a pair whose larger magnitude is a
abbrev pub pair_of : Float → Float → Float
pair_of a b = bounded_of a b (length_of a b)

-- √(x² + y²): infinite if either part is, even beside a NaN; else by the magnitudes alone
unfoldable pub hypot_of : Float → Float → Float
hypot_of x y =
    cond (infinite x || infinite y) (inf false)
    (pair_of (larger (abs_of x) (abs_of y)) (smaller (abs_of x) (abs_of y)))

-- the same where the sum of squares is ordinary, else none
unfoldable pub usual_of : Float → Float → Option Float
usual_of x y = cond (ordinary (squares_of x y)) (Some (hypot_of x y)) None
