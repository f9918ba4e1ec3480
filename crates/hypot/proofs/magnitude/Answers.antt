-- The bits below the sign's are the magnitude's. Assumes nothing.
use mathlib.Core.Path.{sym, subst}
use mathlib.Core.Bool.{Bool, not}
use lib.Dec.{T}
use Rattle.hypot.proofs.Signless.{magnitude_by_bits, lower_bits_are_no_nan}
use Rattle.hypot.proofs.magnitude.Goals as goal

pub float_to_bits-result : goal.float_to_bits-result
float_to_bits-result c = subst (λ (t : Bool). T (not t)) (sym c.requires) tt

pub float_from_bits-result : goal.float_from_bits-result
float_from_bits-result c = lower_bits_are_no_nan c.args.x (subst T (sym c.well_formed.0.1) tt) c.requires

pub returns : goal.returns
returns c = magnitude_by_bits c.args.x (subst T (sym c.well_formed.0.1) tt) c.requires
