-- The step of both modes is, in running mode, the definition word for word. Assumes nothing.
use Rattle.helmert.specs.Modes.{running_of}
use Rattle.helmert_exact_columns.specs.Exact.{met_of}
use Rattle.helmert_exact_columns.proofs.run_exact.Goals as goal

pub returns : goal.returns
unfolding met_of running_of
returns c = c.run.ensures
