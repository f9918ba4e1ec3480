-- The largest of eight patterns and the largest of the eight with the sign turned. Assumes nothing.
use Rattle.grid_rules.specs.Patterns.{worst_of}
use Rattle.grid_rules.proofs.worst.Goals as goal

pub returns : goal.returns
unfolding worst_of
returns c = rw (c.larger.ensures, c.largest-2.ensures, c.sign_turned-8.ensures, c.sign_turned-7.ensures, c.sign_turned-6.ensures, c.sign_turned-5.ensures, c.sign_turned-4.ensures, c.sign_turned-3.ensures, c.sign_turned-2.ensures, c.sign_turned.ensures, c.largest.ensures)
