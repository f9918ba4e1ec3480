-- Calls are replaced by what they ensure; the definition is left. Assumes nothing.
use Rattle.rotation.proofs.exact_matrix.Goals as goal

pub returns : goal.returns
returns c = rw (c.rows.ensures, c.second_order.ensures)
