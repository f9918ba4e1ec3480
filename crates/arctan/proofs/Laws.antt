-- What is true of `atan2_of` for every two numbers, for callers to cite: IEEE 754's cases, each by
-- its name. Assumes nothing.
use mathlib.Core.Path.{◌≡◌, refl, sym, ap, ◌∙◌}
use Prim.Native.Nat.{ℕ, zero, suc}
use mathlib.Core.Bool.{Bool, true, false, cond, ◌||◌, true≢false}
use lib.IntN.{ℤ, pos}
use lib.Dec.{T, lt→ltb}
use native.Mathlib.Nat.{zero-lt-suc}
use lib.Ieee.Scale.{finite}
use lib.Ieee.Bits.{is_true}
use lib.Ieee.Positive.{positive, positive-finite, le_trans_positive}
use lib.Ieee.{Float, nan, inf, fin, of_bits, is_nan, neg, lt, le, eq}
use Rattle.floats.specs.Binary64.{bits}
use Rattle.floats.specs.Number.{sign_of, abs_of}
use Rattle.floats.proofs.Laws.{neg-neg}
use Rattle.floats.proofs.Zero.{equals_zero}
use Rattle.arctan.specs.Table.{quarter_pi, half_pi, three_quarter_pi, pi, octants, octant_at}
use Rattle.arctan.specs.Arctan.{infinity, octant_index_of, within_of, inside_of, along_of, diagonal_of, angle_of, signed, atan2_of}
use Rattle.arctan.specs.Cases.{zero_of, Between}
use Rattle.arctan.proofs.Parts.{zero_of_abs, no_zero_is_above, zero_is_below}

-- what the answer is where no part is NaN
pub by_magnitude_and_sign : (y x : Float) → is_nan y ≡ false → is_nan x ≡ false → atan2_of y x ≡ signed (sign_of y) (angle_of (abs_of y) x)
unfolding atan2_of
by_magnitude_and_sign y x p q = rw (p, q)

-- ---- odd in y

odd_angle : (y : Float) (t : Bool) (g : Float → Float) → cond (is_nan (neg y) || t) nan (signed (sign_of (neg y)) (g (abs_of (neg y)))) ≡ neg (cond (is_nan y || t) nan (signed (sign_of y) (g (abs_of y))))
unfolding is_nan neg sign_of
odd_angle nan t g = refl
odd_angle (inf s) true g = refl
odd_angle (inf true) false g = sym (neg-neg (g (inf false)))
odd_angle (inf false) false g = refl
odd_angle (fin s m e) true g = refl
odd_angle (fin true m e) false g = sym (neg-neg (g (fin false m e)))
odd_angle (fin false m e) false g = refl

pub odd_in_y : (y x : Float) → atan2_of (neg y) x ≡ neg (atan2_of y x)
unfolding atan2_of
odd_in_y y x = odd_angle y (is_nan x) (λ b. angle_of b x)

-- ---- zeros

pub zero_y_and_x_not_negative_is_that_zero : (s : Bool) (x : Float) → is_nan x ≡ false → sign_of x ≡ false → atan2_of (zero_of s) x ≡ zero_of s
unfolding atan2_of angle_of along_of sign_of neg is_nan eq of_bits
zero_y_and_x_not_negative_is_that_zero true x p q = rw (p, q)
zero_y_and_x_not_negative_is_that_zero false x p q = rw (p, q)

pub zero_y_and_negative_x_is_pi_with_its_sign : (s : Bool) (x : Float) → is_nan x ≡ false → sign_of x ≡ true → atan2_of (zero_of s) x ≡ signed s pi
unfolding atan2_of angle_of along_of sign_of neg is_nan eq of_bits
zero_y_and_negative_x_is_pi_with_its_sign true x p q = rw (p, q)
zero_y_and_negative_x_is_pi_with_its_sign false x p q = rw (p, q)

angle_over_zero : (b : Float) (t : Bool) → eq b (bits 0) ≡ false → angle_of b (zero_of t) ≡ half_pi
unfolding angle_of sign_of neg
angle_over_zero b true h = rw (h, equals_zero false (pos 0))
angle_over_zero b false h = rw (h, equals_zero false (pos 0))

no_nan_zero : (t : Bool) → is_nan (zero_of t) ≡ false
unfolding is_nan
no_nan_zero t = refl

pub zero_x_is_half_pi_with_the_sign_of_y : (t : Bool) (y : Float) → is_nan y ≡ false → eq y (bits 0) ≡ false → atan2_of y (zero_of t) ≡ signed (sign_of y) half_pi
zero_x_is_half_pi_with_the_sign_of_y t y p q =
    by_magnitude_and_sign y (zero_of t) p (no_nan_zero t) ∙ ap (signed (sign_of y)) (angle_over_zero (abs_of y) t (zero_of_abs y ∙ q))

-- ---- infinities

-- a finite number is no infinity
finite_is_no_infinity : (s : Bool) (m : ℕ) (e : ℤ) → eq (abs_of (fin s m e)) infinity ≡ false
unfolding eq of_bits neg sign_of
finite_is_no_infinity true m e = refl
finite_is_no_infinity false m e = refl

infinite_angle : (t : Bool) (n : ℕ) (d : ℤ) → angle_of (inf false) (fin t n d) ≡ half_pi
unfolding angle_of sign_of neg eq of_bits
infinite_angle true n d = rw (finite_is_no_infinity true n d) (go (eq (fin false n d) (bits 0)))
  where
    go : (v : Bool) → cond v half_pi half_pi ≡ half_pi
    go true = refl
    go false = refl
infinite_angle false n d = rw (finite_is_no_infinity false n d) (go (eq (fin false n d) (bits 0)))
  where
    go : (v : Bool) → cond v half_pi half_pi ≡ half_pi
    go true = refl
    go false = refl

pub infinite_y_and_finite_x_is_half_pi : (s t : Bool) (n : ℕ) (d : ℤ) → atan2_of (inf s) (fin t n d) ≡ signed s half_pi
unfolding atan2_of is_nan sign_of neg
infinite_y_and_finite_x_is_half_pi true t n d = ap neg (infinite_angle t n d)
infinite_y_and_finite_x_is_half_pi false t n d = infinite_angle t n d

-- 0 along the positive x axis, π along the negative one
far_angle : (m : ℕ) (e : ℤ) (t : Bool) → angle_of (fin false m e) (inf t) ≡ cond t pi (bits 0)
unfolding angle_of along_of sign_of neg eq of_bits
far_angle m e true = go (eq (fin false m e) (bits 0))
  where
    go : (v : Bool) → cond v pi pi ≡ pi
    go true = refl
    go false = refl
far_angle m e false = go (eq (fin false m e) (bits 0))
  where
    go : (v : Bool) → cond v (bits 0) (bits 0) ≡ bits 0
    go true = refl
    go false = refl

pub finite_y_and_infinite_x_is_along_the_x_axis : (s t : Bool) (m : ℕ) (e : ℤ) → atan2_of (fin s m e) (inf t) ≡ signed s (cond t pi (bits 0))
unfolding atan2_of is_nan sign_of neg
finite_y_and_infinite_x_is_along_the_x_axis true t m e = ap neg (far_angle m e t)
finite_y_and_infinite_x_is_along_the_x_axis false t m e = far_angle m e t

pub both_infinite_is_the_diagonal : (s t : Bool) → atan2_of (inf s) (inf t) ≡ signed s (cond t three_quarter_pi quarter_pi)
unfolding atan2_of angle_of diagonal_of sign_of neg is_nan eq of_bits
both_infinite_is_the_diagonal true true = refl
both_infinite_is_the_diagonal true false = refl
both_infinite_is_the_diagonal false true = refl
both_infinite_is_the_diagonal false false = refl

-- ---- quadrants

-- what lies strictly between two finite numbers, the lower without sign, is positive and finite
strictly_between : (low high r : Float) → sign_of low ≡ false → T (finite low) → T (finite high) → lt low r ≡ true → lt r high ≡ true → T (positive r)
unfolding lt sign_of
strictly_between nan high r s f g l h = elim f [ ]
strictly_between (inf _) high r s f g l h = elim f [ ]
strictly_between (fin false m e) nan r s f g l h = elim g [ ]
strictly_between (fin false m e) (inf _) r s f g l h = elim g [ ]
strictly_between (fin true m e) high r s f g l h = absurd (true≢false s)
strictly_between (fin false m e) (fin t n d) nan s f g l h = absurd (true≢false (sym l))
strictly_between (fin false m e) (fin t n d) (inf true) s f g l h = absurd (true≢false (sym l))
strictly_between (fin false m e) (fin t n d) (inf false) s f g l h = absurd (true≢false (sym h))
strictly_between (fin false m e) (fin t n d) (fin true k c) s f g l h = absurd (true≢false (sym l))
strictly_between (fin false m e) (fin t n d) (fin false zero c) s f g l h = absurd (true≢false (sym l ∙ no_zero_is_above m e c))
strictly_between (fin false m e) (fin t n d) (fin false (suc k) c) s f g l h = lt→ltb 0 (suc k) (zero-lt-suc k)

at_most_if_below : (x y : Float) → lt x y ≡ true → T (le x y)
unfolding le
at_most_if_below x y h = rw h tt

positive_is_a_number : (r : Float) → T (positive r) → (is_nan r ≡ false) × (sign_of r ≡ false)
unfolding is_nan sign_of
positive_is_a_number nan p = absurd p
positive_is_a_number (inf s) p = absurd p
positive_is_a_number (fin true m e) p = absurd p
positive_is_a_number (fin false m e) p = (refl, refl)

zero_is_at_most : (r : Float) → T (positive r) → le (bits 0) r ≡ true
unfolding le of_bits
zero_is_at_most nan p = absurd p
zero_is_at_most (inf s) p = absurd p
zero_is_at_most (fin true m e) p = absurd p
zero_is_at_most (fin false zero e) p = absurd p
zero_is_at_most (fin false (suc k) e) p = rw (zero_is_below k (pos 0) e)

-- an angle that was held between `low` and `high` lies between any wider bounds
module _ (least low high most : Float)
    (low-within : Between least most low) (high-within : Between least most high)
    (finite-low : T (finite low)) (positive-high : T (positive high)) (positive-most : T (positive most)) (high-below : T (le high most))
    (lower : (r : Float) → T (positive r) → lt low r ≡ true → le least r ≡ true) where
  held-between : (r : Float) → Between least most (cond (lt r high) (cond (lt low r) r low) high)
  held-between r = go (lt r high) (lt low r) refl refl
    where
      go : (t u : Bool) → lt r high ≡ t → lt low r ≡ u → Between least most (cond t (cond u r low) high)
      go true true h l =
          let p = strictly_between low high r low-within.unsigned finite-low (positive-finite high positive-high) l h in
          record {
            above = lower r p l;
            below = is_true (le r most) (le_trans_positive r high most p positive-high positive-most (at_most_if_below r high h) high-below);
            number = (positive_is_a_number r p).0;
            unsigned = (positive_is_a_number r p).1;
          }
      go true false h l = low-within
      go false u h l = high-within

-- a bound of the octant above the wider one
raised : (least low : Float) → T (positive least) → T (positive low) → T (le least low) → (r : Float) → T (positive r) → lt low r ≡ true → le least r ≡ true
raised least low p q h r s l = is_true (le least r) (le_trans_positive least low r p q s h (at_most_if_below low r l))

on_axis : (left : Bool) → Between (cond left half_pi (bits 0)) (cond left pi half_pi) (along_of left)
unfolding along_of le is_nan sign_of of_bits
on_axis true = record { above = refl; below = refl; number = refl; unsigned = refl }
on_axis false = record { above = refl; below = refl; number = refl; unsigned = refl }

on-diagonal : (left : Bool) → Between (cond left half_pi (bits 0)) (cond left pi half_pi) (diagonal_of left)
unfolding diagonal_of le is_nan sign_of of_bits
on-diagonal true = record { above = refl; below = refl; number = refl; unsigned = refl }
on-diagonal false = record { above = refl; below = refl; number = refl; unsigned = refl }

half : (left : Bool) → Between (cond left half_pi (bits 0)) (cond left pi half_pi) half_pi
unfolding le is_nan sign_of of_bits
half true = record { above = refl; below = refl; number = refl; unsigned = refl }
half false = record { above = refl; below = refl; number = refl; unsigned = refl }

held_in : (left steep : Bool) (r : Float) → Between (cond left half_pi (bits 0)) (cond left pi half_pi) (within_of (octant_at (octant_index_of left steep)) r)
unfolding within_of octant_index_of octant_at octants le is_nan sign_of of_bits
held_in false false =
    held-between (bits 0) (bits 0) quarter_pi half_pi (record { above = refl; below = refl; number = refl; unsigned = refl })
    (record { above = refl; below = refl; number = refl; unsigned = refl }) tt tt tt tt (λ r p l. zero_is_at_most r p)
held_in false true =
    held-between (bits 0) quarter_pi half_pi half_pi (record { above = refl; below = refl; number = refl; unsigned = refl })
    (record { above = refl; below = refl; number = refl; unsigned = refl }) tt tt tt tt (λ r p l. zero_is_at_most r p)
held_in true false =
    held-between half_pi three_quarter_pi pi pi (record { above = refl; below = refl; number = refl; unsigned = refl })
    (record { above = refl; below = refl; number = refl; unsigned = refl }) tt tt tt tt (raised half_pi three_quarter_pi tt tt tt)
held_in true true =
    held-between half_pi half_pi three_quarter_pi pi (record { above = refl; below = refl; number = refl; unsigned = refl })
    (record { above = refl; below = refl; number = refl; unsigned = refl }) tt tt tt tt (raised half_pi half_pi tt tt tt)

inside-between : (left : Bool) (a b : Float) → Between (cond left half_pi (bits 0)) (cond left pi half_pi) (inside_of left a b)
unfolding inside_of
inside-between left a b = held_in left (lt a b) _

-- every magnitude of an angle lies in its quadrant
angle_between : (b x : Float) → Between (cond (sign_of x) half_pi (bits 0)) (cond (sign_of x) pi half_pi) (angle_of b x)
unfolding angle_of along_of diagonal_of
angle_between b x = go (sign_of x) (abs_of x) (eq b (bits 0)) (eq (abs_of x) (bits 0)) (eq b infinity) (eq (abs_of x) infinity)
  where
    go : (left : Bool) (a : Float) (t u v w : Bool)
        → Between (cond left half_pi (bits 0)) (cond left pi half_pi)
        (cond t (along_of left) (cond u half_pi (cond v (cond w (diagonal_of left) half_pi) (cond w (along_of left) (inside_of left a b)))))
    go left a true u v w = on_axis left
    go left a false true v w = half left
    go left a false false true true = on-diagonal left
    go left a false false true false = half left
    go left a false false false true = on_axis left
    go left a false false false false = inside-between left a b

-- ---- the answer: its quadrant, its sign, and where it is NaN

-- for a y without sign: from 0 to π/2 where x has none either, from π/2 to π where x has one
pub from_zero_to_half_pi_if_x_is_not_negative : (y x : Float) → is_nan y ≡ false → is_nan x ≡ false → sign_of y ≡ false → sign_of x ≡ false
    → Between (bits 0) half_pi (atan2_of y x)
from_zero_to_half_pi_if_x_is_not_negative y x p q s t =
    rw (by_magnitude_and_sign y x p q, s) (rw t at (angle_between y x))

pub from_half_pi_to_pi_if_x_is_negative : (y x : Float) → is_nan y ≡ false → is_nan x ≡ false → sign_of y ≡ false → sign_of x ≡ true
    → Between half_pi pi (atan2_of y x)
from_half_pi_to_pi_if_x_is_negative y x p q s t =
    rw (by_magnitude_and_sign y x p q, s) (rw t at (angle_between y x))

sign_of_signed : (s : Bool) (v : Float) → is_nan v ≡ false → sign_of v ≡ false → sign_of (signed s v) ≡ s
unfolding is_nan sign_of neg
sign_of_signed s nan p q = absurd (true≢false p)
sign_of_signed true (inf t) p q = rw q
sign_of_signed false (inf t) p q = q
sign_of_signed true (fin t m e) p q = rw q
sign_of_signed false (fin t m e) p q = q

pub sign_is_that_of_y : (y x : Float) → is_nan y ≡ false → is_nan x ≡ false → sign_of (atan2_of y x) ≡ sign_of y
sign_is_that_of_y y x p q =
    let r = angle_between (abs_of y) x in
    ap sign_of (by_magnitude_and_sign y x p q) ∙ sign_of_signed (sign_of y) (angle_of (abs_of y) x) r.number r.unsigned

nan_of_signed : (s : Bool) (v : Float) → is_nan (signed s v) ≡ is_nan v
unfolding is_nan neg
nan_of_signed true nan = refl
nan_of_signed true (inf t) = refl
nan_of_signed true (fin t m e) = refl
nan_of_signed false v = refl

pub nan_exactly_if_a_part_is : (y x : Float) → is_nan (atan2_of y x) ≡ (is_nan y || is_nan x)
unfolding atan2_of is_nan
nan_exactly_if_a_part_is y x = go (is_nan y || is_nan x)
  where
    go : (t : Bool) → is_nan (cond t nan (signed (sign_of y) (angle_of (abs_of y) x))) ≡ t
    go true = refl
    go false = nan_of_signed (sign_of y) (angle_of (abs_of y) x) ∙ (angle_between (abs_of y) x).number
