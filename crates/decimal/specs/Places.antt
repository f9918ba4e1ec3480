-- The decimal with the fewest places that reads back as a binary64 number.
use Rattle.std.specs.Prelude.{ℕ, zero, suc, ◌+◌, ◌%◌, ◌^◌, Bool, true, false, cond, pos, Float}
use Rattle.std.specs.Float.{binary64}
use Rattle.std.specs.Float.Ieee.{to_bits, of_int, lt}
use Rattle.floats.specs.Binary64.{◌⊕◌, ◌⊗◌, ◌⊘◌, bits}
use Rattle.floats.specs.Number.{sign_of, abs_of, same_of}
use Rattle.decimal.specs.declared.Decimal.{Decimal}
use Rattle.std.specs.declared.option.Option.{Option}
use Rattle.std.specs.declared.option.Option.TheVariants.{Some, None}

-- 10^k as a binary64 number, exactly so up to k = 22
unfoldable pub ten_to : ℕ → Float
ten_to k = of_int binary64 (pos (10 ^ k))

-- 2^52
abbrev pub two_to52 : Float
two_to52 = bits 0x4330_0000_0000_0000

-- the whole number nearest to p, where p is from 0 to below 2^52: the sum with 2^52 rounds to one,
-- and its lower 52 bits are that number
unfoldable pub whole_of : Float → ℕ
whole_of p = to_bits binary64 (p ⊕ two_to52) % 2 ^ 52

-- the digits that are tried at k places: the whole number nearest to a·10^k
unfoldable pub digits_of : Float → ℕ → ℕ
digits_of a k = whole_of (a ⊗ ten_to k)

-- what a correct reader makes of D / 10^k: the quotient of two exact numbers, rounded once
unfoldable pub read_of : ℕ → ℕ → Float
read_of digits k = of_int binary64 (pos digits) ⊘ ten_to k

-- the digits tried at k places read back as a, which is not too large for them
unfoldable pub passes_of : Float → ℕ → Bool
passes_of a k = cond (lt (a ⊗ ten_to k) two_to52) (same_of (read_of (digits_of a k) k) a) false

-- digits / 10^k with its sign is the decimal
abbrev pub found : Bool → ℕ → ℕ → Option Decimal
found negative digits k = Some (record { negative = negative; digits = digits; places = k })

-- The first of n numbers of places, from k on, at which a's digits pass. The test at k is an
-- argument, so that nothing is worked out past the first.
unfoldable pub first_from : ℕ → Bool → Bool → Float → ℕ → Option Decimal
first_from zero b sign a k = None
first_from (suc n) true sign a k = found sign (digits_of a k) k
first_from (suc n) false sign a k = first_from n (passes_of a (k + 1)) sign a (k + 1)

-- from no place to 22
unfoldable pub decimal_of : Float → Option Decimal
decimal_of x = first_from 23 (passes_of (abs_of x) 0) (sign_of x) (abs_of x) 0
