-- Sixteen tuples of a flat list at once, as columns: a block of first numbers, of second, of third
-- and of fourth.
use Rattle.std.specs.Prelude.{ℕ, zero, suc, ◌+◌, ◌*◌, ◌/◌, cond, List, leb, length, Float}
use Rattle.blocks.specs.Each.{count_to}
use Rattle.tuple.specs.declared.Tuple.{Tuple}
use Rattle.tuple.specs.Sums.{nan_tuple}
use Rattle.tuple.specs.Columns.{row_of}
use Rattle.lists.specs.Flat.{tuple_at, put_at}
use Rattle.lists.specs.Run.{Turns}

-- the tuple j of the sixteen from a place on; four NaNs where not all sixteen stand there
unfoldable pub row_at : List Float → ℕ → ℕ → Tuple
row_at l at j = cond (leb (at + 64) (length l)) (tuple_at l (at + 4 * j)) nan_tuple

-- the list with n tuples put one after another from a place on
abbrev pub put_rows : List Float → ℕ → (ℕ → Tuple) → ℕ → List Float
put_rows l at rows zero = l
put_rows l at rows (suc n) = put_at (put_rows l at rows n) (at + 4 * n) (rows n)

-- the list with the columns' sixteen tuples from a place on; as it was where not all sixteen stand
-- there
unfoldable pub put_block : List Float → ℕ → List Float → List Float → List Float → List Float → List Float
put_block l at x y z t = cond (leb (at + 64) (length l)) (put_rows l at (row_of x y z t) 16) l

-- ---- a step's turns of sixteen tuples, the state the same throughout

-- the list with the turns' tuples from a place on; as it was where not all sixteen stand there
unfoldable pub turned_of : {S : Type 0} → Turns S → S → List Float → ℕ → List Float
turned_of f state l i = cond (leb (i + 64) (length l)) (put_rows l i (λ (j : ℕ). (f (i / 4 + j) state (row_at l i j)).tuple) 16) l

-- how many of the sixteen count
unfoldable pub taken_of : {S : Type 0} → Turns S → S → List Float → ℕ → ℕ
taken_of f state l i = count_to 16 (λ (j : ℕ). (f (i / 4 + j) state (row_at l i j)).counted)
