-- By computation: the body's operations are the definition's, in its order. Assumes nothing.
use mathlib.Core.Path.{refl}
use Rattle.arctan.specs.Arctan.{head_of}
use Rattle.arctan.proofs.head.Goals as goal

pub returns : goal.returns
unfolding head_of
returns c = refl
