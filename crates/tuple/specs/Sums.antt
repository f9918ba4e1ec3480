-- A tuple's sums and products, which the Rust files lean on and do not contain: each works on all
-- four numbers, from the left, one rounding after another.
use Rattle.std.specs.Prelude.{Bool, ◌||◌, Float}
use Rattle.std.specs.Float.{nan}
use Rattle.std.specs.Float.Ieee.{is_nan}
use Rattle.floats.specs.Binary64.{◌⊕◌, ◌⊗◌}
use Rattle.tuple.specs.declared.Tuple.{Tuple}

-- four NaNs
abbrev pub nan_tuple : Tuple
nan_tuple = record { x = nan; y = nan; z = nan; t = nan }

-- whether any of the four is NaN
abbrev pub any_nan_of : Tuple → Bool
any_nan_of v = is_nan v.x || is_nan v.y || is_nan v.z || is_nan v.t

-- v + w: the time is added too
abbrev pub add_of : Tuple → Tuple → Tuple
add_of v w = record { x = v.x ⊕ w.x; y = v.y ⊕ w.y; z = v.z ⊕ w.z; t = v.t ⊕ w.t }

-- k times v, the time too
abbrev pub scale_of : Tuple → Float → Tuple
scale_of v k = record { x = v.x ⊗ k; y = v.y ⊗ k; z = v.z ⊗ k; t = v.t ⊗ k }

-- the sum of four products, from the left
abbrev pub dot_of : Tuple → Tuple → Float
dot_of v w = v.x ⊗ w.x ⊕ v.y ⊗ w.y ⊕ v.z ⊗ w.z ⊕ v.t ⊗ w.t
