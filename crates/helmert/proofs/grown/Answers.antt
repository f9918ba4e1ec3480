-- By computation: the body's operations are the definition's, in its order. Assumes nothing.
use mathlib.Core.Path.{refl}
use Rattle.helmert.specs.Modes.{grown_of}
use Rattle.helmert.proofs.grown.Goals as goal

pub returns : goal.returns
unfolding grown_of
returns c = refl
