-- "Out of reach" at its edges, evaluated. Assumes nothing.
use Prim.Native.Nat.{ℕ}
use mathlib.Core.Path.{◌≡◌, refl}
use mathlib.Core.Bool.{Bool, true, false}
use lib.Ieee.{of_bits, neg, le, sum, size}
use Rattle.floats.specs.Binary64.{bits}
use Rattle.floats.specs.Number.{sign_of}
use Rattle.trig.specs.Trig.{out_of_reach}

-- an angle by its bits, and whether it is out of reach
abbrev Edge : ℕ → Bool → Type 0
Edge x out = out_of_reach (bits x) ≡ out

edges :
    -- 0 and -0
    Edge 0 false × Edge 0x8000_0000_0000_0000 false ×
    -- 1024 and -1024
    Edge 0x4090_0000_0000_0000 false × Edge 0xc090_0000_0000_0000 false ×
    -- the next numbers beyond them
    Edge 0x4090_0000_0000_0001 true × Edge 0xc090_0000_0000_0001 true ×
    -- the largest finite number
    Edge 0x7fef_ffff_ffff_ffff true ×
    -- ∞, -∞, NaN
    Edge 0x7ff0_0000_0000_0000 true × Edge 0xfff0_0000_0000_0000 true × Edge 0x7ff8_0000_0000_0000 true
unfolding out_of_reach sign_of of_bits neg le sum size
edges = (refl, refl, refl, refl, refl, refl, refl, refl, refl, refl)
