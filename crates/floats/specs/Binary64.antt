-- binary64 arithmetic as the definitions of every crate write it: each sign is one operation,
-- rounded once, to the nearest, a tie to the even one.
-- A number of the source, as 298.257222101, is the binary64 number nearest to it, and stands here
-- by its 64 bits.
use Rattle.std.specs.Prelude.{ℕ, Float}
use Rattle.std.specs.Float.{binary64}
use Rattle.std.specs.Float.Ieee.{of_bits, add, sub, mul, div}

infixl 60 ◌⊕◌ ◌⊖◌
infixl 70 ◌⊗◌ ◌⊘◌
abbrev pub ◌⊕◌ : Float → Float → Float
x ⊕ y = add binary64 x y

abbrev pub ◌⊖◌ : Float → Float → Float
x ⊖ y = sub binary64 x y

abbrev pub ◌⊗◌ : Float → Float → Float
x ⊗ y = mul binary64 x y

abbrev pub ◌⊘◌ : Float → Float → Float
x ⊘ y = div binary64 x y

-- the number whose 64 bits these are
abbrev pub bits : ℕ → Float
bits b = of_bits binary64 b
