-- One case for each way through the test. Calls are replaced by what they ensure; the definition is
-- left. Assumes nothing.
use Rattle.helmert.specs.Modes.{fixed_step_of}
use Rattle.helmert.proofs.fixed_step.Goals as goal

pub returns-then-shift : goal.returns-then-shift
unfolding fixed_step_of
returns-then-shift c = rw (c.apply_about.ensures, c.if-shift.true, c.rotation_matrix-m.ensures)

pub returns : goal.returns
unfolding fixed_step_of
returns c = rw (c.apply.ensures, c.if-shift.false, c.rotation_matrix-m.ensures)
