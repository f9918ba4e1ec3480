-- By computation: the body's operations are the definition's, in its order. Assumes nothing.
use mathlib.Core.Path.{refl}
use Rattle.helmert.specs.Apply.{deoffset_of}
use Rattle.helmert.proofs.deoffset.Goals as goal

pub returns : goal.returns
unfolding deoffset_of
returns c = refl
