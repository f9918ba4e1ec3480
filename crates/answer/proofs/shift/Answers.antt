-- With a grid and without one: the call's own answer. Assumes nothing.
use Rattle.answer.specs.Answer.{is_lent, grid_in}
use Rattle.answer.proofs.shift.Goals as goal

pub returns-in-Some : goal.returns-in-Some
unfolding is_lent grid_in
returns-in-Some c = rw c.in-Some.is c.shift_grid.ensures

pub returns-in-None : goal.returns-in-None
unfolding is_lent grid_in
returns-in-None c = rw c.in-None.is c.shift.ensures
