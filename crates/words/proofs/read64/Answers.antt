-- By arithmetic on the bounds at hand. Assumes nothing.
use native.Mathlib.Omega.{arith}
use Rattle.words.specs.Words.{word64}
use Rattle.words.proofs.read64.Goals as goal

pub returns : goal.returns
unfolding word64
returns c = omega arith
