-- Without a grid. Assumes nothing.
use Rattle.answer.specs.Answer.{is_lent, grid_in}
use Rattle.answer.proofs.answer.Goals as goal

pub returns : goal.returns
unfolding is_lent grid_in
returns c = c.answered.ensures
