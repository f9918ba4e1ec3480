-- Calls are replaced by what they ensure, an answer's numbers by the pair (`numbers_of_angle`); the
-- definition is left. Assumes nothing.
use Rattle.trig.proofs.Laws.{numbers_of_angle}
use Rattle.deformation.proofs.rotate_and_integrate_velocity.Goals as goal

pub returns : goal.returns
returns c = rw (c.turned.ensures, c.numbers-2.ensures, c.sin_cos-2.ensures, numbers_of_angle _, c.numbers.ensures, c.sin_cos.ensures, numbers_of_angle _)
