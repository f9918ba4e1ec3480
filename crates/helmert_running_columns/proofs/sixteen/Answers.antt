-- What the first phase leaves is what the second asks for. Assumes nothing.
use native.Mathlib.Omega.{arith}
use Rattle.helmert_running_columns.proofs.sixteen.Goals as goal

pub ahead-state-requires : goal.ahead-state-requires
ahead-state-requires c = omega (arith, c.requires.1, c.requires.0.2)

pub lanes-requires : goal.lanes-requires
lanes-requires c = (c.requires.0, c.requires.1, c.ahead-state.ensures.0, c.requires.2)

pub returns : goal.returns
returns c = rw c.ahead-state.ensures.1 c.lanes.ensures
