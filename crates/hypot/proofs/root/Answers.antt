-- Calls are replaced by what they ensure; the definition is left. Assumes nothing.
use Rattle.hypot.specs.Hypot.{root_of}
use Rattle.hypot.proofs.root.Goals as goal

pub returns : goal.returns
unfolding root_of
returns c = rw (c.reciprocal_root-factor.ensures, c.requires)
