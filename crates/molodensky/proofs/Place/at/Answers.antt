-- Calls are replaced by what they ensure, an answer's numbers by the pair (`numbers_of_angle`); the
-- definition is left. Assumes nothing.
use Rattle.molodensky.specs.Step.{figures_at_of}
use Rattle.trig.proofs.Laws.{numbers_of_angle}
use Rattle.molodensky.proofs.Place.at.Goals as goal

pub returns : goal.returns
unfolding figures_at_of
returns c = rw (c.with.ensures, c.radii_of_curvature.ensures, c.numbers-p.ensures, c.sin_cos-2.ensures, numbers_of_angle _, c.numbers-l.ensures, c.sin_cos.ensures, numbers_of_angle _)
