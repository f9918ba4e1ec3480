-- By computation: the body's operations are the definition's, in its order. Assumes nothing.
use mathlib.Core.Path.{refl}
use Rattle.helmert.specs.Rules.{some_of}
use Rattle.helmert.proofs.some.Goals as goal

pub returns : goal.returns
unfolding some_of
returns c = refl
