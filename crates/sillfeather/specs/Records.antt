-- Records from the words and numbers that C passes one by one.
use Rattle.std.specs.Prelude.{ℕ, Float}
use Rattle.cart.specs.declared.Cart.{Cart as CartRecord}
use Rattle.permtide.specs.declared.Permtide.{Permtide as PermtideRecord}
use Rattle.deformation.specs.declared.Deformation.{Deformation as DeformationRecord}

abbrev pub cart_with : ℕ → CartRecord
cart_with ellipsoid = record { ellipsoid = ellipsoid }

abbrev pub permtide_with : ℕ → ℕ → ℕ → Float → PermtideRecord
permtide_with ellipsoid to from k = record { ellipsoid = ellipsoid; to = to; from = from; k = k }

abbrev pub deformation_with : ℕ → ℕ → Float → Float → DeformationRecord
deformation_with flags ellipsoid dt epoch = record { flags = flags; ellipsoid = ellipsoid; dt = dt; epoch = epoch }
