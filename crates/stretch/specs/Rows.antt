-- How many rows columns have, as the test by which a public function asks whether what it is lent
-- fits together.
use Rattle.std.specs.Prelude.{ℕ, Bool, ◌&&◌, eqb, length}
use Rattle.columns.specs.Columns.{Columns}

-- four columns, by their lengths, are of n rows
unfoldable pub of_rows_of : ℕ → ℕ → ℕ → ℕ → ℕ → Bool
of_rows_of n x y z t = eqb x n && eqb y n && eqb z n && eqb t n

abbrev pub has_rows : ℕ → Columns → Bool
has_rows n k = of_rows_of n (length k.x) (length k.y) (length k.z) (length k.t)
