-- Calls are replaced by what they ensure; the definition is left. Assumes nothing.
use Rattle.sheet_writer.proofs.kind_in.Goals as goal

pub returns : goal.returns
returns c = rw (c.kind_of.ensures, c.entry_in.ensures)
