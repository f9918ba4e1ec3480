-- Calls are replaced by what they ensure; the definition is left. Assumes nothing.
use Rattle.rotation.specs.Matrix.{second_order_of}
use Rattle.rotation.proofs.second_order.Goals as goal

pub returns : goal.returns
unfolding second_order_of
returns c = rw c.first_order-e.ensures
