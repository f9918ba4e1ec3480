-- The search, place by place. Assumes nothing.
use mathlib.Core.Path.{◌≡◌}
use Prim.Native.Nat.{ℕ, suc, ◌+◌}
use mathlib.Core.Bool.{Bool, true, false}
use lib.Ieee.{Float}
use Rattle.std.specs.declared.option.Option.TheVariants.{None}
use Rattle.decimal.specs.Places.{digits_of, passes_of, first_from, found}

-- with n + 1 numbers of places left: at k it passes, or it goes on
pub stops : (left n k : ℕ) (b sign : Bool) (a : Float) → left ≡ suc n → b ≡ true → first_from left b sign a k ≡ found sign (digits_of a k) k
unfolding first_from
stops left n k b sign a l p = rw (l, p)

pub goes_on : (left n k : ℕ) (b sign : Bool) (a : Float) → left ≡ suc n → b ≡ false → first_from left b sign a k ≡ first_from n (passes_of a (k + 1)) sign a (k + 1)
unfolding first_from
goes_on left n k b sign a l p = rw (l, p)

pub ends : (left k : ℕ) (b sign : Bool) (a : Float) → left ≡ 0 → first_from left b sign a k ≡ None
unfolding first_from
ends left k b sign a l = rw l
