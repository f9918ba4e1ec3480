-- By computation: the body's operations are the definition's, in its order. Assumes nothing.
use mathlib.Core.Path.{refl}
use Rattle.kept_columns.specs.Columns.{uneven}
use Rattle.kept_columns.proofs.uneven_rows.Goals as goal

pub returns : goal.returns
unfolding uneven
returns c = refl
