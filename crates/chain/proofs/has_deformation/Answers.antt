-- Calls are replaced by what they ensure; the definition is left. Assumes nothing.
use Rattle.chain.proofs.has_deformation.Goals as goal

pub returns : goal.returns
returns c = rw (← c.step_count.ensures.0) c.deforms.ensures
