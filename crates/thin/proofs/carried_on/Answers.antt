-- Calls are replaced by what they ensure; the definition is left. Assumes nothing.
use Rattle.thin.proofs.carried_on.Goals as goal

pub returns : goal.returns
returns c = rw (c.one_if-2.ensures.0, c.one_if.ensures.0)
