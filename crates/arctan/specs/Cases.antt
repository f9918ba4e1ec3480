-- What the laws of atan2's cases speak of: a zero with its sign, and an angle between two others.
use Rattle.std.specs.Prelude.{◌≡◌, Bool, true, false, pos, Float}
use Rattle.std.specs.Float.{fin}
use Rattle.std.specs.Float.Ieee.{is_nan, le}
use Rattle.floats.specs.Number.{sign_of}

-- ±0
abbrev pub zero_of : Bool → Float
zero_of s = fin s 0 (pos 0)

-- between two angles, neither NaN nor with a sign
pub record Between (low high v : Float) : Type 0 where
  pub above : le low v ≡ true
  pub below : le v high ≡ true
  pub number : is_nan v ≡ false
  pub unsigned : sign_of v ≡ false
