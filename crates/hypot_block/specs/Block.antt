-- What the loop over a block of points tells.
use Rattle.std.specs.Prelude.{ℕ, Bool, List, Option, Float}
use Rattle.std.specs.Option.{is_some, unwrap_or}
use Rattle.floats.specs.Binary64.{bits}
use Rattle.blocks.specs.Each.{at, UpTo, Tells}
use Rattle.hypot.specs.Hypot.{usual_of}

-- the usual case of the point at a place
abbrev pub usual_at : List Float → List Float → ℕ → Option Float
usual_at x y j = usual_of (at x j) (at y j)

-- `r` is a block whose first n places hold the usual case's lengths, 0 where it has none, and `all`
-- tells whether their sums of squares are all ordinary
pub record UsualUpTo (n : ℕ) (x y r : List Float) (all : Bool) : Type 0 where
  pub lengths : UpTo n r (λ (j : ℕ). unwrap_or (usual_at x y j) (bits 0))
  pub ordinary : Tells n (λ (j : ℕ). is_some (usual_at x y j)) all
