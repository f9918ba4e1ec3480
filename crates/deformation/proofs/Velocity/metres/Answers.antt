-- Calls are replaced by what they ensure; the definition is left. Assumes nothing.
use Rattle.deformation.proofs.Velocity.metres.Goals as goal

pub returns : goal.returns
returns c = rw (c.mul.ensures, c.metre.ensures)
