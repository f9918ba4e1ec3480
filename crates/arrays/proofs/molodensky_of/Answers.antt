-- By computation: the body's operations are the definition's, in its order. Assumes nothing.
use mathlib.Core.Path.{refl}
use Rattle.arrays.specs.Arrays.{molodensky_of}
use Rattle.arrays.proofs.molodensky_of.Goals as goal

pub returns : goal.returns
unfolding molodensky_of
returns c = refl
