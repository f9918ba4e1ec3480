-- Each column is its source (`copy`), so the flat lists are equal. Assumes nothing.
use Rattle.stretch_results.proofs.copy_columns.Goals as goal

pub returns : goal.returns
returns c = rw (c.copy.ensures, c.copy-2.ensures, c.copy-3.ensures, c.copy-4.ensures)
