-- Sameness of states as data, which is what a correction compares by: every NaN is the same as
-- every other, and -0 is not +0.
use Rattle.std.specs.Prelude.{Bool, true, false, ◌&&◌, eqb, ℤ, pos, negsuc, Float}
use Rattle.std.specs.Bool.{beq}
use Rattle.std.specs.Float.{nan, inf, fin}
use Rattle.tuple.specs.declared.Tuple.{Tuple}

abbrev pub alike_exponent_of : ℤ → ℤ → Bool
alike_exponent_of (pos m) (pos n) = eqb m n
alike_exponent_of (pos m) (negsuc n) = false
alike_exponent_of (negsuc m) (pos n) = false
alike_exponent_of (negsuc m) (negsuc n) = eqb m n

-- NaN with NaN, an infinity by its sign, a finite number by its sign, significand and exponent
unfoldable pub alike_number_of : Float → Float → Bool
alike_number_of nan nan = true
alike_number_of nan (inf t) = false
alike_number_of nan (fin t n d) = false
alike_number_of (inf s) nan = false
alike_number_of (inf s) (inf t) = beq s t
alike_number_of (inf s) (fin t n d) = false
alike_number_of (fin s m e) nan = false
alike_number_of (fin s m e) (inf t) = false
alike_number_of (fin s m e) (fin t n d) = beq s t && (eqb m n && alike_exponent_of e d)

-- four numbers, each the same
unfoldable pub alike_of : Tuple → Tuple → Bool
alike_of v w =
    alike_number_of v.x w.x && (alike_number_of v.y w.y && (alike_number_of v.z w.z && alike_number_of v.t w.t))
