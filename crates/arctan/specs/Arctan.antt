-- atan2: the angle of the point (x, y), from -π to π, as a sequence of single roundings.
use Rattle.std.specs.Prelude.{ℕ, ◌-◌, ◌/◌, min, Bool, cond, ◌&&◌, ◌||◌, eqb, Float}
use Rattle.std.specs.Float.{nan, binary64}
use Rattle.std.specs.Float.Ieee.{to_bits, is_nan, neg, lt, le, eq}
use Rattle.floats.specs.Binary64.{◌⊕◌, ◌⊖◌, ◌⊗◌, ◌⊘◌, bits}
use Rattle.floats.specs.Number.{sign_of, abs_of}
use Rattle.arctan.specs.declared.Cell.{Cell}
use Rattle.arctan.specs.declared.Octant.{Octant}
use Rattle.arctan.specs.Table.{quarter_pi, half_pi, three_quarter_pi, pi, cell_at, octant_at}

abbrev pub zero : Float
zero = bits 0

abbrev pub one : Float
one = bits 0x3ff0_0000_0000_0000

abbrev pub infinity : Float
infinity = bits 0x7ff0_0000_0000_0000

-- arctan t - t for |t| up to 0.0852: t³ times a polynomial of t²
unfoldable pub tail_of : Float → Float
tail_of t =
    let t² = t ⊗ t in
    let t⁴ = t² ⊗ t² in
    t ⊗ t²
    ⊗ (bits 0xbfd5_5555_5555_52b2 ⊕ bits 0x3fc9_9999_9971_519b ⊗ t²
    ⊕ (bits 0xbfc2_4924_2e62_3bf4 ⊕ bits 0x3fbc_70ee_b0f1_f0dc ⊗ t² ⊕ bits 0xbfb6_db33_6872_e5f5 ⊗ t⁴) ⊗ t⁴)

-- the upper 26 binary digits of v: by 2²⁷ + 1
unfoldable pub head_of : Float → Float
head_of v = let w = bits 0x41a0_0000_0200_0000 ⊗ v in w ⊖ (w ⊖ v)

-- arctan (b/a) for a quotient up to 1/12: the quotient in two parts, its head and what the head
-- leaves of b, and the tail
unfoldable pub small_angle_of : Float → Float → Float
small_angle_of a b =
    let inverse = one ⊘ a in
    let t = b ⊗ inverse in
    let left = b ⊖ head_of t ⊗ head_of a ⊖ head_of t ⊗ (a ⊖ head_of a) in
    head_of t ⊕ (left ⊗ inverse ⊕ tail_of t)

-- The octant's base, with the angle of the quotient b/a added or taken away. With c the cell's cut,
-- arctan (b/a) = arctan c + arctan t for t = (b - c·a)/(a + c·b);
-- b - c·a loses nothing, since each part of c has one binary digit.
unfoldable pub cut_angle_of : Octant → Cell → Float → Float → Float
cut_angle_of o c a b =
    let t = (b ⊖ c.coarse ⊗ a ⊖ c.fine ⊗ a) ⊘ (o.side ⊗ (a ⊕ (c.coarse ⊕ c.fine) ⊗ b)) in
    o.base ⊕ o.side ⊗ c.angle ⊕ (t ⊕ (o.rest ⊕ o.side ⊗ c.rest) ⊕ tail_of t)

-- the cell of b/a: four to a halving, told by the difference of the bits; the last, 16, takes all
-- below
unfoldable pub cell_index_of : Float → Float → ℕ
cell_index_of a b = min ((to_bits binary64 a - to_bits binary64 b) / 0x4_0000_0000_0000) 16

-- whether an angle is near 0: in the octant 0 and below all cuts
unfoldable pub small : ℕ → ℕ → Bool
small k i = eqb k 0 && eqb i 16

-- the angle in the octant k of the larger magnitude a and the smaller b: where it is near 0, with
-- the quotient in two parts
unfoldable pub quotient_angle_of : ℕ → Float → Float → Float
quotient_angle_of k a b =
    let i = cell_index_of a b in
    cond (small k i) (small_angle_of a b) (cut_angle_of (octant_at k) (cell_at i) a b)

-- whether the larger magnitude is below 2⁷⁰⁰ and the smaller above 2⁻⁷⁰⁰
unfoldable pub moderate : Float → Float → Bool
moderate a b = lt a (bits 0x6bb0_0000_0000_0000) && lt (bits 0x1430_0000_0000_0000) b

-- other magnitudes are scaled before they are divided: by 2⁻³⁰⁰ if the larger is above 1, else by
-- 2³⁰⁰
unfoldable pub scale_of : Float → Float
scale_of a = cond (lt one a) (bits 0x2d30_0000_0000_0000) (bits 0x52b0_0000_0000_0000)

-- unless the quotient is below 2⁻¹⁰⁰: then it is its own angle, and beside π/2 or π it is nothing
unfoldable pub extreme_angle_of : ℕ → Float → Float → Float
extreme_angle_of k a b =
    cond (le (a ⊗ bits 0x39b0_0000_0000_0000) b) (quotient_angle_of k (a ⊗ scale_of a) (b ⊗ scale_of a))
    (cond (eqb k 0) (b ⊘ a) (octant_at k).base)

-- an angle, or the nearer end of the octant if it lies outside
unfoldable pub within_of : Octant → Float → Float
within_of o angle = cond (lt angle o.high) (cond (lt o.low angle) angle o.low) o.high

-- the octant by whether x is negative and whether |y| is above |x|
unfoldable pub octant_index_of : Bool → Bool → ℕ
octant_index_of left steep = cond left (cond steep 3 2) (cond steep 1 0)

-- the angle of magnitudes a = |x| and b = |y| that are neither zero nor infinite
unfoldable pub inside_of : Bool → Float → Float → Float
inside_of left a b =
    let steep = lt a b in
    let k = octant_index_of left steep in
    let larger = cond steep b a in
    let smaller = cond steep a b in
    within_of (octant_at k) (cond (moderate larger smaller) (quotient_angle_of k larger smaller) (extreme_angle_of k larger smaller))

-- along the x axis, to the right or to the left; and halfway between the axes
unfoldable pub along_of : Bool → Float
along_of left = cond left pi zero

unfoldable pub diagonal_of : Bool → Float
diagonal_of left = cond left three_quarter_pi quarter_pi

-- the angle of (x, b) for a magnitude b, from 0 to π: IEEE 754's cases, and else by the octant
unfoldable pub angle_of : Float → Float → Float
angle_of b x =
    let a = abs_of x in
    let left = sign_of x in
    cond (eq b zero) (along_of left)
    (cond (eq a zero) half_pi
    (cond (eq b infinity) (cond (eq a infinity) (diagonal_of left) half_pi)
    (cond (eq a infinity) (along_of left) (inside_of left a b))))

-- v, negated if `minus`
abbrev pub signed : Bool → Float → Float
signed minus v = cond minus (neg v) v

-- the angle of (x, y): by |y|, with the sign of y
unfoldable pub atan2_of : Float → Float → Float
atan2_of y x = cond (is_nan y || is_nan x) nan (signed (sign_of y) (angle_of (abs_of y) x))
