-- By what the calls ensure. Assumes nothing.
use Rattle.reach.proofs.rotation_at_out.Goals as goal

pub returns : goal.returns
returns c = rw (c.rotation_out.ensures, c.rotation_at.ensures)
