-- Calls are replaced by what they ensure; the definition is left. Assumes nothing.
use native.Mathlib.Omega.{arith}
use Rattle.decimal.specs.Places.{whole_of}
use Rattle.decimal.proofs.whole.Goals as goal

pub returns : goal.returns
unfolding whole_of
returns c = (rw c.to_bits.ensures, omega arith)
