-- Calls are replaced by what they ensure, an answer's numbers by the pair (`numbers_of_angle`); the
-- definition is left. Assumes nothing.
use Rattle.permtide.specs.Step.{lift_of}
use Rattle.trig.proofs.Laws.{numbers_of_angle}
use Rattle.permtide.proofs.lift.Goals as goal

pub returns : goal.returns
unfolding lift_of
returns c = rw (c.height.ensures, c.numbers-bar.ensures, c.sin_cos-2.ensures, numbers_of_angle _, c.latitude_geographic_to_geocentric-phibar.ensures, c.numbers-lat.ensures, c.sin_cos.ensures, numbers_of_angle _)
