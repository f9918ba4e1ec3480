-- Forward runs, since the rules are kept; the list keeps its length, so inverse runs too
-- (`grid-both-run`). Assumes nothing.
use Rattle.closure_run.proofs.GridAnswers.{grid-both-run}
use Rattle.closure_run.proofs.grid_there_and_back.Goals as goal

pub returns : goal.returns
returns c = let p = c.requires in grid-both-run _ _ _ _ _ p.0 p.1 p.2 p.3 _ _ c.shift_grid.ensures.1 c.shift_grid-2.ensures.1
