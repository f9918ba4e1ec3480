-- Within -1 to 1, both included; a NaN is not.
use Rattle.std.specs.Prelude.{◌≡◌, true, Float}
use Rattle.std.specs.Float.Ieee.{neg, le}
use Rattle.trig.specs.Trig.{one}

abbrev pub WithinOne : Float → Type 0
WithinOne r = (le (neg one) r ≡ true) × (le r one ≡ true)
