-- By what `abs` ensures. Assumes nothing.
use Rattle.trig.specs.Trig.{out_of_reach}
use Rattle.reach.proofs.out_of_reach.Goals as goal

pub returns : goal.returns
unfolding out_of_reach
returns c = rw c.abs.ensures
