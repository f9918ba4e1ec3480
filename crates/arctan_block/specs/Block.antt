-- What the loops over a block of points tell one another.
use Rattle.std.specs.Prelude.{ℕ, ◌+◌, ◌-◌, ◌*◌, ◌/◌, ◌%◌, ◌<◌, ◌≤◌, min, ◌≡◌, true, cond, List, leb, ltb, Float}
use Rattle.std.specs.Float.{binary64}
use Rattle.std.specs.Float.Ieee.{to_bits, lt}
use Rattle.floats.specs.Binary64.{bits}
use Rattle.floats.specs.Number.{abs_of}
use Rattle.blocks.specs.Each.{at, whole_at, UpTo, WholeUpTo}
use Rattle.arctan.specs.declared.Cell.{Cell}
use Rattle.arctan.specs.declared.Octant.{Octant}
use Rattle.arctan_block.specs.declared.Point.{Point}
use Rattle.arctan.specs.Table.{cell_at, octant_at}
use Rattle.arctan.specs.Arctan.{zero, moderate, cell_index_of, octant_index_of, cut_angle_of, signed, atan2_of}

abbrev pub at_most : Float → Float → Float
at_most v m = cond (lt v m) v m

abbrev pub at_least : Float → Float → Float
at_least v m = cond (lt m v) v m

-- p - q, modulo 2⁶⁴
abbrev pub difference_of : ℕ → ℕ → ℕ
difference_of p q = cond (leb q p) (p - q) (p + (0xffff_ffff_ffff_ffff - q) + 1)

-- of the magnitudes of a point the larger and the smaller
abbrev pub larger_of : Float → Float → Float
larger_of y x = cond (lt (abs_of x) (abs_of y)) (abs_of y) (abs_of x)

abbrev pub smaller_of : Float → Float → Float
smaller_of y x = cond (lt (abs_of x) (abs_of y)) (abs_of x) (abs_of y)

-- the same, held within the moderate
unfoldable pub held_larger : Float → Float → Float
held_larger y x = at_most (larger_of y x) (bits 0x6bb0_0000_0000_0000)

unfoldable pub held_smaller : Float → Float → Float
held_smaller y x = at_least (smaller_of y x) (bits 0x1430_0000_0000_0000)

-- the quarters of a halving from the one to the other
unfoldable pub quarters_of : Float → Float → ℕ
quarters_of y x = difference_of (to_bits binary64 (held_larger y x)) (to_bits binary64 (held_smaller y x)) / 0x4_0000_0000_0000

unfoldable pub octant_of : Float → Float → ℕ
octant_of y x = octant_index_of (lt x zero) (lt (abs_of x) (abs_of y))

-- a point that the tables serve: nothing was held, and the quarters tell the cell
pub record Usual (y x : Float) : Type 0 where
  pub is-moderate : moderate (larger_of y x) (smaller_of y x) ≡ true
  pub larger-kept : held_larger y x ≡ larger_of y x
  pub smaller-kept : held_smaller y x ≡ smaller_of y x
  pub cell : min (quarters_of y x) 16 ≡ cell_index_of (larger_of y x) (smaller_of y x)

-- what is told of one point
pub record SizedPoint (y x : Float) (p : Point) : Type 0 where
  pub larger-is : p.larger ≡ held_larger y x
  pub smaller-is : p.smaller ≡ held_smaller y x
  pub quarters-is : p.quarters ≡ quarters_of y x
  pub octant-is : p.octant ≡ octant_of y x
  pub bound : p.odd ≤ 16384
  pub usual : p.odd < 256 → Usual y x

-- and of the first i of a block, which are n odd together
pub record SizedUpTo (i : ℕ) (y x larger smaller : List Float) (quarters octants : List ℕ) (n : ℕ) : Type 0 where
  pub larger-are : UpTo i larger (λ (j : ℕ). held_larger (at y j) (at x j))
  pub smaller-are : UpTo i smaller (λ (j : ℕ). held_smaller (at y j) (at x j))
  pub quarters-are : WholeUpTo i quarters (λ (j : ℕ). quarters_of (at y j) (at x j))
  pub octants-are : WholeUpTo i octants (λ (j : ℕ). octant_of (at y j) (at x j))
  pub bound : n ≤ 16384 * i
  pub usual : n < 256 → (j : ℕ) → j < i → Usual (at y j) (at x j)

-- the angle by the rows of the tables
unfoldable pub quick_of : Float → Octant → Cell → Float → Float → Float
quick_of y o c a b = signed (lt y zero) (at_least (at_most (cut_angle_of o c a b) o.high) o.low)

abbrev pub quick_at : List Float → List Float → List Float → List ℕ → List ℕ → ℕ → Float
quick_at y larger smaller quarters octants j = quick_of (at y j) (octant_at (whole_at octants j % 4)) (cell_at (min (whole_at quarters j) 16)) (at larger j) (at smaller j)

-- near 0, and for a few points more, not by the rows
abbrev pub mended_of : Float → Float → ℕ → ℕ → Float → Float
mended_of y x octant quarters angle = cond (ltb octant (quarters / 16)) (atan2_of y x) angle

abbrev pub mended_at : List Float → List Float → List ℕ → List ℕ → List Float → ℕ → Float
mended_at y x quarters octants angles j = mended_of (at y j) (at x j) (whole_at octants j) (whole_at quarters j) (at angles j)
