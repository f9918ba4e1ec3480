-- By what the calls ensure. Assumes nothing.
use Rattle.reach.proofs.offsets_out.Goals as goal

pub returns : goal.returns
returns c = rw (c.out_of_reach.ensures, c.place_out.ensures)
