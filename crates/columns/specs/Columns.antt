-- Four columns of numbers, and the flat list of tuples that they stand for.
use Rattle.std.specs.Prelude.{ℕ, ◌/◌, ◌%◌, ◌≡◌, Bool, cond, ◌&&◌, List, [], ◌∷◌, eqb, ltb, length, Float}
use Rattle.tuple.specs.declared.Tuple.{Tuple}
use Rattle.lists.specs.Flat.{four_of}

-- four columns, one for each number of a tuple
pub record Columns : Type 0 where
  pub x : List Float
  pub y : List Float
  pub z : List Float
  pub t : List Float

abbrev pub columns : List Float → List Float → List Float → List Float → Columns
columns x y z t = record { x = x; y = y; z = z; t = t }

-- columns of one length, as a fact and as a test
abbrev pub Level : List Float → List Float → List Float → List Float → Type 0
Level x y z t = (length y ≡ length x) × (length z ≡ length x) × (length t ≡ length x)

unfoldable pub level_of : List Float → List Float → List Float → List Float → Bool
level_of x y z t = eqb (length y) (length x) && eqb (length z) (length x) && eqb (length t) (length x)

-- ---- there: the flat list that columns stand for

-- tuple after tuple, as far as all four columns go
unfoldable pub row_by_row : List Float → List Float → List Float → List Float → List Float
row_by_row (x ∷ xs) (y ∷ ys) (z ∷ zs) (t ∷ ts) = x ∷ y ∷ z ∷ t ∷ row_by_row xs ys zs ts
row_by_row (x ∷ xs) (y ∷ ys) (z ∷ zs) [] = []
row_by_row (x ∷ xs) (y ∷ ys) [] ts = []
row_by_row (x ∷ xs) [] zs ts = []
row_by_row [] ys zs ts = []

-- columns of unequal length stand for no tuple
unfoldable pub flat_of : List Float → List Float → List Float → List Float → List Float
flat_of x y z t = cond (level_of x y z t) (row_by_row x y z t) []

-- a row stands at an index
unfoldable pub has_row_of : List Float → List Float → List Float → List Float → ℕ → Bool
has_row_of x y z t i = level_of x y z t && ltb i (length x)

-- a flat list has four numbers for each row
unfoldable pub fits_of : List Float → List Float → List Float → List Float → List Float → Bool
fits_of list x y z t = level_of x y z t && eqb (length list % 4) 0 && eqb (length list / 4) (length x)

-- ---- and back: the columns of a flat list

-- one number of each whole tuple
unfoldable pub column_of : (Tuple → Float) → List Float → List Float
column_of pick (x ∷ y ∷ z ∷ t ∷ rest) = pick (four_of x y z t) ∷ column_of pick rest
column_of pick (x ∷ y ∷ z ∷ []) = []
column_of pick (x ∷ y ∷ []) = []
column_of pick (x ∷ []) = []
column_of pick [] = []

abbrev pub columns_of : List Float → Columns
columns_of l =
    columns (column_of (λ (v : Tuple). v.x) l) (column_of (λ (v : Tuple). v.y) l) (column_of (λ (v : Tuple). v.z) l) (column_of (λ (v : Tuple). v.t) l)
