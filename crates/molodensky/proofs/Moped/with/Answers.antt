-- Calls are replaced by what they ensure; the definition is left. Assumes nothing.
use Rattle.molodensky.specs.Step.{figure_of}
use Rattle.molodensky.proofs.Moped.with.Goals as goal

pub returns : goal.returns
unfolding figure_of
returns c = rw c.abridged.ensures
