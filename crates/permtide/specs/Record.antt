-- The permtide step's record, as a sheet carries it (kind 4): an ellipsoid, the codes of the system
-- shifted to and from, and Love's number k. Systems: mean 1, zero 2, free 3.
use Rattle.std.specs.Prelude.{ℕ, Bool, cond, false, ◌&&◌, ◌||◌, eqb, Float}
use Rattle.std.specs.Float.{nan}
use Rattle.std.specs.Float.Ieee.{neg}
use Rattle.std.specs.Float.Ieee.Scale.{finite}
use Rattle.floats.specs.Binary64.{◌⊕◌, bits}
use Rattle.ellipsoid.specs.Figure.{one, exists_of}
use Rattle.permtide.specs.declared.Permtide.{Permtide}

-- the crate's defaults: GRS80, k = 0.3; the codes must be given, so they are 0 here and refused by
-- rule 5
abbrev pub blank_of : Permtide
blank_of = record { ellipsoid = 1; to = 0; from = 0; k = bits 0x3fd3_3333_3333_3333 }

-- The coefficient of a shift to one system from another, at Love's number k. Other codes: NaN.
-- A row for each system shifted to; in it, from mean, from zero, from free.
abbrev pub from_of : ℕ → Float → Float → Float → Float
from_of from mean zero free = cond (eqb from 1) mean (cond (eqb from 2) zero (cond (eqb from 3) free nan))

unfoldable pub coefficient_of : ℕ → ℕ → Float → Float
coefficient_of to from k =
    cond (eqb to 1) (from_of from (bits 0) one (one ⊕ k))
    (cond (eqb to 2) (from_of from (neg one) (bits 0) k)
    (cond (eqb to 3) (from_of from (neg (one ⊕ k)) (neg k) (bits 0))
    nan))

-- the code names one of the three systems
abbrev pub system_of : ℕ → Bool
system_of code = eqb code 1 || eqb code 2 || eqb code 3

-- rule 5: the table has the ellipsoid, k is finite, and both codes name a system
abbrev pub in_rule_of : Permtide → Bool
in_rule_of r = cond (exists_of r.ellipsoid) (cond (finite r.k) (system_of r.to && system_of r.from) false) false
