-- The lookup, a sequence of single roundings: every ⊕, ⊖, ⊗ and ⊘ is one. In document 02's letters,
-- with N = south + (rows - 1)·dlat and E = west + (columns - 1)·dlon:
--   inside   south <= phi <= N and west <= lam <= E, by comparison; a NaN is not inside
--   u        (phi - south) / dlat, at most rows - 1, and rows - 1 itself where phi is N
--   i, f     the whole part of u, at most rows - 2, and u - i; so f is 1 on the last row
--   v, j, g  likewise by the columns, from lam
--   a, c     1 - f, 1 - g
--   weights  a·c, a·g, f·c and f·g for the nodes SW (i, j), SE (i, j + 1), NW (i + 1, j) and
--            NE (i + 1, j + 1)
--   found    east, north and up: weight times node, ((SW + SE) + NW) + NE
use Rattle.std.specs.Prelude.{ℕ, ◌+◌, ◌-◌, Bool, cond, ◌&&◌, List, pos, nat_lt, Float}
use Rattle.std.specs.Float.{nan, binary64}
use Rattle.std.specs.Float.Ieee.{of_int, to_unsigned, le, lt}
use Rattle.floats.specs.Binary64.{◌⊕◌, ◌⊖◌, ◌⊗◌, ◌⊘◌, bits}
use Rattle.words.specs.Words.{number_at}
use Rattle.grid_rules.specs.Layout.{row_count_of, column_count_of, south_of, west_of, latitude_spacing_of, longitude_spacing_of, node_offset_of}
use Rattle.grid_rules.specs.Rules.{count_in_rule}
use Rattle.grid.specs.declared.Axis.{Axis}
use Rattle.grid.specs.declared.Node.{Node}
use Rattle.grid.specs.declared.Pair.{Pair}
use Rattle.grid.specs.declared.Four.{Four}
use Rattle.grid.specs.declared.Weights.{Weights}
use Rattle.grid.specs.declared.Marked.{Marked}

-- ---- an axis: the rows by latitude, the columns by longitude

abbrev pub rows_of : List ℕ → Axis
rows_of s = record { start = south_of s; step = latitude_spacing_of s; count = row_count_of s }

abbrev pub columns_of : List ℕ → Axis
columns_of s = record { start = west_of s; step = longitude_spacing_of s; count = column_count_of s }

-- a whole number as a binary64 number; 0 is +0
abbrev pub as_number : ℕ → Float
as_number n = of_int binary64 (pos n)

-- count - 1 as a number
abbrev pub far_of : ℕ → Float
far_of count = as_number (count - 1)

-- N or E: the place of the last line
unfoldable pub last_of : Axis → Float
last_of a = a.start ⊕ far_of a.count ⊗ a.step

-- from the first line to the last, both counted in; a NaN is not, and nothing is where the count is
-- out of rule
unfoldable pub within_of : Axis → Float → Bool
within_of a x = count_in_rule a.count && le a.start x && le x (last_of a)

unfoldable pub quotient_of : Axis → Float → Float
quotient_of a x = (x ⊖ a.start) ⊘ a.step

-- the lesser of two; the second where they do not compare
abbrev pub lesser_of : Float → Float → Float
lesser_of a b = cond (lt a b) a b

-- u or v: how many spacings x stands from the first line. It is the quotient, at most count - 1, and
-- count - 1 itself on the last line.
unfoldable pub spacings_of : Axis → Float → Float
spacings_of a x = cond (lt x (last_of a)) (lesser_of (quotient_of a x) (far_of a.count)) (far_of a.count)

-- n, and m where n is above it
abbrev pub at_most : ℕ → ℕ → ℕ
at_most n m = cond (nat_lt m n) m n

-- i or j: the whole part of u, at most count - 2
unfoldable pub cell_of : ℕ → Float → ℕ
cell_of count u = at_most (to_unsigned 64 u) (count - 2)

-- f or g: how far past line k
abbrev pub share_of : Float → ℕ → Float
share_of u k = u ⊖ as_number k

-- ---- a cell

-- the node whose east, north and up stand from a place on
abbrev pub node_at : List ℕ → ℕ → Node
node_at s at = record { east = number_at s at; north = number_at s (at + 8); up = number_at s (at + 16) }

-- the node of row i and column j
abbrev pub node_of : List ℕ → ℕ → ℕ → ℕ → Node
node_of s columns i j = node_at s (node_offset_of columns i j)

abbrev pub one : Float
one = bits 0x3ff0_0000_0000_0000

abbrev pub weights_of : Float → Float → Weights
weights_of f g =
    let a = one ⊖ f in
    let c = one ⊖ g in
    record { sw = a ⊗ c; se = a ⊗ g; nw = f ⊗ c; ne = f ⊗ g }

abbrev pub mix_of : Weights → Float → Float → Float → Float → Float
mix_of w sw se nw ne = w.sw ⊗ sw ⊕ w.se ⊗ se ⊕ w.nw ⊗ nw ⊕ w.ne ⊗ ne

unfoldable pub mixed_of : Weights → Node → Node → Node → Node → Node
mixed_of w sw se nw ne =
    record {
      east = mix_of w sw.east se.east nw.east ne.east;
      north = mix_of w sw.north se.north nw.north ne.north;
      up = mix_of w sw.up se.up nw.up ne.up;
    }

-- a node and the next one to the east, as the code reads them
unfoldable pub pair_at : List ℕ → ℕ → Pair
pair_at s at = record { west = node_at s at; east = node_at s (at + 24) }

-- two such pairs, the second in other bytes or further on
unfoldable pub four_at : List ℕ → ℕ → List ℕ → ℕ → Four
four_at s south r north = record { south = pair_at s south; north = pair_at r north }

-- ---- the lookup

abbrev pub inside_of : Axis → Axis → Float → Float → Bool
inside_of rows columns lam phi = within_of rows phi && within_of columns lam

-- the velocity of a place u rows and v columns from the first ones
unfoldable pub cell_velocity_of : List ℕ → ℕ → Float → Float → ℕ → ℕ → Node
cell_velocity_of s columns u v i j =
    mixed_of (weights_of (share_of u i) (share_of v j))
    (node_of s columns i j)
    (node_of s columns i (j + 1))
    (node_of s columns (i + 1) j)
    (node_of s columns (i + 1) (j + 1))

unfoldable pub looked_up : List ℕ → Axis → Axis → Float → Float → Node
looked_up s rows columns lam phi =
    let u = spacings_of rows phi in
    let v = spacings_of columns lam in
    cell_velocity_of s columns.count u v (cell_of rows.count u) (cell_of columns.count v)

abbrev pub present_of : Node → Marked
present_of v = record { mark = 1; east = v.east; north = v.north; up = v.up }

abbrev pub absent_of : Marked
absent_of = record { mark = 0; east = nan; north = nan; up = nan }

unfoldable pub found_in : List ℕ → Axis → Axis → Float → Float → Marked
found_in s rows columns lam phi =
    cond (inside_of rows columns lam phi) (present_of (looked_up s rows columns lam phi)) absent_of

-- what a grid's bytes give at a longitude and latitude
unfoldable pub found_of : List ℕ → Float → Float → Marked
found_of s lam phi = found_in s (rows_of s) (columns_of s) lam phi
