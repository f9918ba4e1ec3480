-- Calls are replaced by what they ensure, an answer's numbers by the pair (`numbers_of_angle`); the
-- definition is left. Assumes nothing.
use Rattle.trig.proofs.Laws.{numbers_of_angle}
use Rattle.rotation.proofs.exact_sines.Goals as goal

pub returns : goal.returns
returns c =
    rw (
      c.numbers-z.ensures,
      c.sin_cos-3.ensures,
      numbers_of_angle _,
      c.numbers-y.ensures,
      c.sin_cos-2.ensures,
      numbers_of_angle _,
      c.numbers-x.ensures,
      c.sin_cos.ensures,
      numbers_of_angle _,
    )
