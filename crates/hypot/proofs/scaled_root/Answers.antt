-- Calls are replaced by what they ensure; the definition is left. Assumes nothing.
use Rattle.hypot.specs.Hypot.{scaled_root_of, squares_of}
use Rattle.hypot.proofs.scaled_root.Goals as goal

pub returns : goal.returns
unfolding scaled_root_of squares_of
returns c = rw c.root.ensures
