-- The length of the array that is made. Assumes nothing.
use mathlib.Core.Path.{refl}
use Rattle.chain.proofs.zeros.Goals as goal

pub returns : goal.returns
returns c = refl
