-- Where things stand in a velocity grid. Two u32 counts, four binary64 numbers for the corner and
-- the spacings in radians, then east, north and up of each node in mm a year as binary64: rows from
-- the south, nodes of a row from the west. A byte past the end of the list reads as 0.
use Rattle.std.specs.Prelude.{ℕ, ◌+◌, ◌*◌, ◌-◌, ◌/◌, List, length, Float}
use Rattle.words.specs.Words.{word32, number_at}

-- bytes 0 to 3: how many rows
abbrev pub row_count_of : List ℕ → ℕ
row_count_of s = word32 s 0

-- bytes 4 to 7: how many columns, which are the nodes of a row
abbrev pub column_count_of : List ℕ → ℕ
column_count_of s = word32 s 4

-- bytes 8 to 15: the latitude of the first row
abbrev pub south_of : List ℕ → Float
south_of s = number_at s 8

-- bytes 16 to 23: the longitude of the first column
abbrev pub west_of : List ℕ → Float
west_of s = number_at s 16

-- bytes 24 to 31: from a row to the next
abbrev pub latitude_spacing_of : List ℕ → Float
latitude_spacing_of s = number_at s 24

-- bytes 32 to 39: from a column to the next
abbrev pub longitude_spacing_of : List ℕ → Float
longitude_spacing_of s = number_at s 32

-- from byte 40 on: where the node of row i and column j stands, both counted from 0, in a grid of so
-- many columns. East stands there, north 8 bytes on, up 16 bytes on.
abbrev pub node_offset_of : ℕ → ℕ → ℕ → ℕ
node_offset_of columns i j = 40 + 24 * (i * columns + j)

-- how long a grid of these counts is
abbrev pub grid_length_of : ℕ → ℕ → ℕ
grid_length_of rows columns = 40 + 24 * (rows * columns)

-- number k after the two counts, k from 0: the corner, the spacings, then the nodes' numbers
abbrev pub number_of : List ℕ → ℕ → Float
number_of s k = number_at s (8 + 8 * k)

-- how many numbers stand after the two counts
abbrev pub numbers_of : List ℕ → ℕ
numbers_of s = (length s - 8) / 8
