-- A flat list: four numbers a tuple, one tuple after another. A place is where a tuple's first
-- number stands.
use Rattle.std.specs.Prelude.{ℕ, ◌+◌, cond, List, [], ◌∷◌, ◌++◌, leb, length, take, drop, get_or, Float}
use Rattle.std.specs.Float.{nan}
use Rattle.tuple.specs.declared.Tuple.{Tuple}
use Rattle.tuple.specs.Sums.{nan_tuple}

abbrev pub four_of : Float → Float → Float → Float → Tuple
four_of x y z t = record { x = x; y = y; z = z; t = t }

abbrev pub numbers_of : Tuple → List Float
numbers_of v = v.x ∷ v.y ∷ v.z ∷ v.t ∷ []

-- the tuple at a place; four NaNs where no whole tuple stands there
unfoldable pub tuple_at : List Float → ℕ → Tuple
tuple_at l at =
    cond (leb (at + 4) (length l)) (four_of (get_or l at nan) (get_or l (at + 1) nan) (get_or l (at + 2) nan) (get_or l (at + 3) nan)) nan_tuple

-- the list with a tuple at a place; as it was where no whole tuple stands there
unfoldable pub put_at : List Float → ℕ → Tuple → List Float
put_at l at v = cond (leb (at + 4) (length l)) (take at l ++ numbers_of v ++ drop (at + 4) l) l
