-- The answer's numbers are the pair's, out of reach too (`numbers_of_angle`). Assumes nothing.
use mathlib.Core.Path.{ap, ◌∙◌}
use Rattle.trig.specs.Trig.{numbers_of}
use Rattle.trig.proofs.Laws.{numbers_of_angle}
use Rattle.trig.proofs.sin_cos_numbers.Goals as goal

pub returns : goal.returns
returns c = c.numbers.ensures ∙ ap numbers_of c.sin_cos.ensures ∙ numbers_of_angle _
