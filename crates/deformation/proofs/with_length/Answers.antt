-- Calls are replaced by what they ensure; the definition is left. Assumes nothing.
use Rattle.deformation.specs.Step.{with_length_of}
use Rattle.deformation.proofs.with_length.Goals as goal

pub returns : goal.returns
unfolding with_length_of
returns c = rw (c.sqrt.ensures, c.dot.ensures)
