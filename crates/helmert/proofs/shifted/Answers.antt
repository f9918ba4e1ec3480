-- Calls are replaced by what they ensure; the definition is left. Assumes nothing.
use Rattle.helmert.proofs.shifted.Goals as goal

pub returns : goal.returns
returns c = rw (c.apply.ensures, c.rotation_matrix.ensures)
