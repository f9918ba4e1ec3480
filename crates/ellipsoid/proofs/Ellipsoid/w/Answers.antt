-- Calls are replaced by what they ensure; the definition is left. Assumes nothing.
use Rattle.ellipsoid.specs.Figure.{w_of}
use Rattle.ellipsoid.proofs.Ellipsoid.w.Goals as goal

pub returns : goal.returns
unfolding w_of
returns c = rw c.square.ensures
