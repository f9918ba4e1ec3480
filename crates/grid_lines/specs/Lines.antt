-- A velocity grid shown to whoever made it: counts, extent and spacings, and each node; or the
-- refusal in words with the byte that it is about.
use Rattle.std.specs.Prelude.{ℕ, zero, suc, ◌+◌, ◌*◌, ◌/◌, ◌%◌, cond, not, List, ◌++◌, eqb, ltb, length, Float}
use Rattle.std.specs.Float.{binary64}
use Rattle.std.specs.Float.Ieee.{to_bits}
use Rattle.floats.specs.Binary64.{◌⊕◌, ◌⊖◌, ◌⊗◌, ◌⊘◌, bits}
use Rattle.std.specs.Float.Ieee.Scale.{finite}
use Rattle.words.specs.Words.{word64}
use Rattle.text.specs.Ascii.{ascii}
use Rattle.text.specs.Digits.{decimal_of}
use Rattle.figures.specs.Figures.{number_text}
use Rattle.grid_rules.specs.Layout.{row_count_of, column_count_of, latitude_spacing_of, number_of, numbers_of}
use Rattle.grid_rules.specs.Rules.{above_zero, layout_place}
use Rattle.grid.specs.Lookup.{rows_of, columns_of, last_of}

-- a name, a whole number, and what follows it
unfoldable pub count_text : List ℕ → ℕ → List ℕ → List ℕ
count_text name n more = name ++ decimal_of n ++ more

-- a name, the number with these 64 bits, and what follows it
unfoldable pub figure_text : List ℕ → ℕ → List ℕ → List ℕ
figure_text name pattern more = name ++ number_text pattern ++ more

-- Degrees of a number of radians, to the nearest 10^-9 of a degree: times 180/π and 10^9, rounded to
-- a whole number by 3·2^51, and over 10^9. For people to read; the radians stand beside it.
unfoldable pub degrees_of : Float → Float
degrees_of x =
    ((x ⊗ bits 0x404c_a5dc_1a63_c1f8 ⊗ bits 0x41cd_cd65_0000_0000 ⊕ bits 0x4338_0000_0000_0000) ⊖ bits 0x4338_0000_0000_0000) ⊘ bits 0x41cd_cd65_0000_0000

-- a name, the angle with these 64 bits in degrees, and in radians as it stands
unfoldable pub angle_text : List ℕ → ℕ → List ℕ
angle_text name pattern =
    figure_text name (to_bits binary64 (degrees_of (bits pattern))) (ascii " degrees (") ++ number_text pattern ++ ascii " rad)\n"

-- ---- a grid in rule

unfoldable pub counts_text : List ℕ → List ℕ
counts_text s = count_text (ascii "rows: ") (row_count_of s) (ascii "\n") ++ count_text (ascii "columns: ") (column_count_of s) (ascii "\n")

unfoldable pub rows_text : List ℕ → List ℕ
rows_text s =
    angle_text (ascii "south: ") (word64 s 8)
    ++ angle_text (ascii "north: ") (to_bits binary64 (last_of (rows_of s)))
    ++ angle_text (ascii "latitude spacing: ") (word64 s 24)

unfoldable pub columns_text : List ℕ → List ℕ
columns_text s =
    angle_text (ascii "west: ") (word64 s 16)
    ++ angle_text (ascii "east: ") (to_bits binary64 (last_of (columns_of s)))
    ++ angle_text (ascii "longitude spacing: ") (word64 s 32)

-- the head of a grid
unfoldable pub head_text : List ℕ → List ℕ
head_text s = counts_text s ++ rows_text s ++ columns_text s

-- the velocity that stands from a byte on
unfoldable pub velocity_text : List ℕ → ℕ → List ℕ
velocity_text s at =
    figure_text (ascii "east ") (word64 s at) (ascii ", ")
    ++ figure_text (ascii "north ") (word64 s (at + 8)) (ascii ", ")
    ++ figure_text (ascii "up ") (word64 s (at + 16)) (ascii " mm/year\n")

-- how many nodes a row has; 1 where the bytes say none, which only bytes that are no grid do
unfoldable pub across_of : List ℕ → ℕ
across_of s = cond (eqb (column_count_of s) 0) 1 (column_count_of s)

-- node k, counted along the rows from 0, with its row and its column told from 1
unfoldable pub node_text : List ℕ → ℕ → List ℕ
node_text s k =
    count_text (ascii "row ") (k / across_of s + 1) (ascii " ")
    ++ count_text (ascii "column ") (k % across_of s + 1) (ascii ": ")
    ++ velocity_text s (40 + 24 * k)

-- ---- a refusal

-- the first of the numbers from k on that is not finite, of n that are left; where all are, the
-- number past them
unfoldable pub not_finite_from : List ℕ → ℕ → ℕ → ℕ
not_finite_from s zero k = k
not_finite_from s (suc n) k = cond (finite (number_of s k)) (not_finite_from s n (k + 1)) k

-- the byte that rule 18 is about: the first number not finite; else the first spacing not positive
unfoldable pub number_place : List ℕ → ℕ
number_place s =
    let k = not_finite_from s (numbers_of s) 0 in
    cond (ltb k (numbers_of s)) (8 + 8 * k) (cond (not (above_zero (latitude_spacing_of s))) 24 32)

unfoldable pub refusal_text : List ℕ → ℕ → List ℕ
refusal_text s number =
    cond (eqb number 17)
    (ascii "refused 17: grid layout: fewer than 8 bytes, a count outside 2 to 64, or another length than the counts say\n" ++ count_text (ascii "place: byte ") (layout_place s) (ascii "\n"))
    (ascii "refused 18: grid number not finite or spacing not positive\n" ++ count_text (ascii "place: byte ") (number_place s) (ascii "\n"))

-- how many bytes there are, and the counts in them
unfoldable pub seen_text : List ℕ → List ℕ
seen_text s = count_text (ascii "bytes: ") (length s) (ascii "\n") ++ counts_text s
