-- permtide in either direction, and numbers put into one column. Working definitions: the contract
-- of `permtide` names neither.
use Rattle.std.specs.Prelude.{ℕ, zero, suc, ◌+◌, Bool, cond, List, set, Float}
use Rattle.floats.specs.Binary64.{◌⊕◌, ◌⊖◌}
use Rattle.blocks.specs.Each.{at}
use Rattle.tuple.specs.declared.Tuple.{Tuple}
use Rattle.lists.specs.Flat.{four_of}
use Rattle.permtide.specs.declared.Tide.{Tide}
use Rattle.permtide.specs.Step.{lift_of}

-- the height that stands after the step, by the latitude y and the height z before it
abbrev pub height_of : Tide → Bool → Float → Float → Float
height_of op inverse y z = cond inverse (z ⊖ lift_of op y) (z ⊕ lift_of op y)

-- the other three coordinates stay
abbrev pub shifted_of : Tide → Bool → Tuple → Tuple
shifted_of op inverse v = four_of v.x v.y (height_of op inverse v.y v.z) v.t

-- a column with the first n numbers of b put from index i on
abbrev pub part_put : List Float → ℕ → List Float → ℕ → List Float
part_put column i b zero = column
part_put column i b (suc n) = set (part_put column i b n) (i + n) (at b n)
