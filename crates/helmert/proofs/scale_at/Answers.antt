-- By computation: the body's operations are the definition's, in its order. Assumes nothing.
use mathlib.Core.Path.{refl}
use Rattle.helmert.specs.Modes.{scale_at_of}
use Rattle.helmert.proofs.scale_at.Goals as goal

pub returns : goal.returns
unfolding scale_at_of
returns c = refl
