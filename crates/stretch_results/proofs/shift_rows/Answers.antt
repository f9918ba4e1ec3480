-- The copy is the list, and the step runs over it. Assumes nothing.
use Rattle.stretch_results.proofs.shift_rows.Goals as goal

pub returns : goal.returns
returns c = rw c.copy_columns.ensures at c.run_helmert.ensures.0
