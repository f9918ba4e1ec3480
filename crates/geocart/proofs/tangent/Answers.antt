-- By computation: the body's operations are the definition's, in its order. Assumes nothing.
use mathlib.Core.Path.{refl}
use Rattle.geocart.specs.Geocart.{tangent_of}
use Rattle.geocart.proofs.tangent.Goals as goal

pub returns : goal.returns
unfolding tangent_of
returns c = refl
