-- What is taken from the constant is less than leaves the numbers. Assumes nothing.
use mathlib.Core.Path.{refl, sym, subst}
use mathlib.Core.Bool.{Bool, not}
use lib.Dec.{T}
use native.Mathlib.Omega.{arith}
use Rattle.floats.proofs.Nan.{no_nan_bits}
use Rattle.hypot.specs.Hypot.{guess_of}
use Rattle.hypot.proofs.guess_of_number.Goals as goal

pub float_to_bits-result : goal.float_to_bits-result
float_to_bits-result c = subst (λ (t : Bool). T (not t)) (sym c.requires) tt

pub float_from_bits-result : goal.float_from_bits-result
float_from_bits-result c = no_nan_bits _ (omega arith)

pub returns : goal.returns
unfolding guess_of
returns c = refl
