-- No rule after 5 asks anything of this kind. Assumes nothing.
use mathlib.Core.Path.{refl}
use Rattle.bodies.specs.Rules.{some_rule}
use Rattle.bodies.proofs.PermtideBody.breaks.Goals as goal

pub returns : goal.returns
unfolding some_rule
returns c = refl
