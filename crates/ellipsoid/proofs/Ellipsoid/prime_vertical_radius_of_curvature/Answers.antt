-- Calls are replaced by what they ensure; the definition is left. Assumes nothing.
use Rattle.ellipsoid.specs.Figure.{prime_vertical_of}
use Rattle.ellipsoid.proofs.Ellipsoid.prime_vertical_radius_of_curvature.Goals as goal

pub returns : goal.returns
unfolding prime_vertical_of
returns c = rw (c.sqrt.ensures, c.w.ensures)
