-- By what the calls ensure: the record of the numbers passed, its direction and its motion. Assumes
-- nothing.
use Rattle.grid_c.proofs.lent_deformation.Goals as goal

pub returns : goal.returns
returns c =
    let e = rw (c.new.ensures, c.directed-reversed.ensures, c.step_given-step.ensures) at c.deformation-moved.ensures in
    (e.0, e.1)
