-- The definition itself. Assumes nothing.
use mathlib.Core.Path.{refl}
use Rattle.grid_lines.specs.Lines.{degrees_of}
use Rattle.grid_lines.proofs.degrees.Goals as goal

pub returns : goal.returns
unfolding degrees_of
returns c = refl
