-- By computation: the body's operations are the definition's, in its order. Assumes nothing.
use mathlib.Core.Path.{refl}
use Rattle.stretch.specs.Rows.{of_rows_of}
use Rattle.stretch.proofs.of_rows.Goals as goal

pub returns : goal.returns
unfolding of_rows_of
returns c = refl
