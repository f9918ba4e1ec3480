-- By computation: the body's operations are the definition's, in its order. Assumes nothing.
use mathlib.Core.Path.{refl}
use Rattle.deformation.specs.Step.{east_north_up_of}
use Rattle.deformation.proofs.turned.Goals as goal

pub returns : goal.returns
unfolding east_north_up_of
returns c = refl
