-- The length of the array that is made. Assumes nothing.
use mathlib.Core.Path.{refl}
use Rattle.step_windows.proofs.room.Goals as goal

pub returns : goal.returns
returns c = refl
