-- Each column that is lent is a field of 72 rows; after the first seven the search does not reach
-- the facts of the parameters, and is given those of the results and of the track. Assumes nothing.
use Rattle.std.proofs.Common.{rules}
use Rattle.corrections_columns.proofs.correct.Goals as goal

pub slice_bounds-correct-end-8 : goal.slice_bounds-correct-end-8
slice_bounds-correct-end-8 c = search (rules, c.well_formed.1.1.1.0)

pub slice_bounds-correct-end-10 : goal.slice_bounds-correct-end-10
slice_bounds-correct-end-10 c = search (rules, c.well_formed.1.1.1.1.0)

pub slice_bounds-correct-end-11 : goal.slice_bounds-correct-end-11
slice_bounds-correct-end-11 c = search (rules, c.well_formed.1.1.1.1.0)

pub slice_bounds-correct-end-12 : goal.slice_bounds-correct-end-12
slice_bounds-correct-end-12 c = search (rules, c.well_formed.1.1.1.1.0)
