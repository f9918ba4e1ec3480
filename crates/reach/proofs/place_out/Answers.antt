-- By what the calls ensure. Assumes nothing.
use Rattle.reach.proofs.place_out.Goals as goal

pub returns : goal.returns
returns c = rw (c.out_of_reach-2.ensures, c.out_of_reach.ensures)
