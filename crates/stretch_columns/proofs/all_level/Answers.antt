-- By what `of_rows` ensures. Assumes nothing.
use Rattle.stretch_columns.proofs.all_level.Goals as goal

pub returns : goal.returns
returns c = rw (c.of_rows.ensures, c.of_rows-2.ensures, c.of_rows-3.ensures)
