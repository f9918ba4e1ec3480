-- Calls are replaced by what they ensure, an answer's numbers by the pair (`numbers_of_angle`); the
-- definition is left. Assumes nothing.
use Rattle.geocart.specs.Geocart.{cartesian_of}
use Rattle.trig.proofs.Laws.{numbers_of_angle}
use Rattle.geocart.proofs.cartesian.Goals as goal

pub returns : goal.returns
unfolding cartesian_of
returns c = rw (c.point_at-v.ensures, c.prime_vertical_radius_of_curvature-n.ensures, c.numbers-lam.ensures, c.sin_cos-2.ensures, numbers_of_angle _, c.numbers-phi.ensures, c.sin_cos.ensures, numbers_of_angle _)
