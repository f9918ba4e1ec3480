-- Calls are replaced by what they ensure; the definition is left. Assumes nothing.
use Rattle.figures.proofs.put_number_at.Goals as goal

pub returns : goal.returns
returns c = rw (← c.read64.ensures) c.put_number.ensures
