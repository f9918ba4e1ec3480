-- By computation: the body's operations are the definition's, in its order. Assumes nothing.
use mathlib.Core.Path.{refl}
use Rattle.arctan.specs.Arctan.{tail_of}
use Rattle.arctan.proofs.tail.Goals as goal

pub returns : goal.returns
unfolding tail_of
returns c = refl
