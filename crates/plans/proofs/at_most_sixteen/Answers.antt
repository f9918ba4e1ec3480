-- The smaller of both, which is what the definition's test picks (`the_smaller`). Assumes nothing.
use mathlib.Core.Path.{◌∙◌}
use Rattle.plans.proofs.Arrays.{the_smaller}
use Rattle.plans.proofs.at_most_sixteen.Goals as goal

pub returns : goal.returns
returns c = c.min.ensures ∙ the_smaller _
