-- By what the calls ensure: the record of the numbers passed, its direction and its motion. Assumes
-- nothing.
use Rattle.grid_c.proofs.grid_deformation.Goals as goal

pub returns : goal.returns
returns c = rw (c.new.ensures, c.directed-reversed.ensures, c.step_given-step.ensures) at c.deformation.ensures
