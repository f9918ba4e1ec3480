-- Forward runs, since the rules are kept; the list keeps its length, so inverse runs too
-- (`both_run`). Assumes nothing.
use Rattle.closure_run.proofs.Answers.{both_run}
use Rattle.closure_run.proofs.there_and_back.Goals as goal

pub returns : goal.returns
returns c = let p = c.requires in both_run _ _ _ _ p.0 p.1 p.2 _ _ c.shift.ensures.1 c.shift-2.ensures.1
