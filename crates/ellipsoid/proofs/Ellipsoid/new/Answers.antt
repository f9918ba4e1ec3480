-- By computation: the body's operations are the definition's, in its order. Assumes nothing.
use mathlib.Core.Path.{refl}
use Rattle.ellipsoid.specs.Figure.{ellipsoid_of}
use Rattle.ellipsoid.proofs.Ellipsoid.new.Goals as goal

pub returns : goal.returns
unfolding ellipsoid_of
returns c = refl
