-- Calls are replaced by what they ensure; the definition is left. Assumes nothing.
use Rattle.permtide.proofs.inv.Goals as goal

pub returns : goal.returns
returns c = rw c.lift.ensures
