-- Calls are replaced by what they ensure; the definition is left. Assumes nothing.
use Rattle.sheet.proofs.Entry.blank.Goals as goal

pub returns : goal.returns
returns c = rw c.blank_step-step.ensures
