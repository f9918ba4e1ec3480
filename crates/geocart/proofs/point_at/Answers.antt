-- By computation: the body's operations are the definition's, in its order. Assumes nothing.
use mathlib.Core.Path.{refl}
use Rattle.geocart.specs.Geocart.{point_of}
use Rattle.geocart.proofs.point_at.Goals as goal

pub returns : goal.returns
unfolding point_of
returns c = refl
