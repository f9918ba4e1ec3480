-- Calls are replaced by what they ensure; the definition is left. Assumes nothing.
use Rattle.kept.proofs.shift_of.Goals as goal

pub returns : goal.returns
returns c = c.step_shift.ensures
