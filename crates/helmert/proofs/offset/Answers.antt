-- By computation: the body's operations are the definition's, in its order. Assumes nothing.
use mathlib.Core.Path.{refl}
use Rattle.helmert.specs.Apply.{offset_of}
use Rattle.helmert.proofs.offset.Goals as goal

pub returns : goal.returns
unfolding offset_of
returns c = refl
