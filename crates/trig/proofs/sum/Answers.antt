-- Calls are replaced by what they ensure; the definition is left. Assumes nothing.
use Rattle.trig.specs.Trig.{sum_of}
use Rattle.trig.proofs.sum.Goals as goal

pub returns : goal.returns
unfolding sum_of
returns c = c.clamp.ensures
