-- What the converters leave where the list has four numbers for each row, from what they ensure.
-- Assumes nothing.
use Prim.Native.Nat.{◌*◌}
use mathlib.Core.Path.{◌≡◌}
use mathlib.Core.Bool.{cond}
use mathlib.Core.List.{List}
use lib.ListN.{length}
use lib.Ieee.{Float}
use Rattle.columns.specs.Columns.{Level, flat_of, fits_of}
use Rattle.columns.proofs.Laws.{in_columns, in_flat}

pub to_rows : (list x y z t : List Float) {l : List Float} → l ≡ cond (fits_of list x y z t) list (flat_of x y z t) → Level x y z t → length list ≡ 4 * length x → l ≡ list
to_rows list x y z t e h k = in_columns list x y z t h k e

pub from_rows : (list x y z t : List Float) {l : List Float} → l ≡ cond (fits_of list x y z t) (flat_of x y z t) list → Level x y z t → length list ≡ 4 * length x → l ≡ flat_of x y z t
from_rows list x y z t e h k = in_flat list x y z t h k e
