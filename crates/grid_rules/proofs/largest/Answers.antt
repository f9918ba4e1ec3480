-- Seven comparisons as a tree, each by what the calls ensure. Assumes nothing.
use Rattle.grid_rules.specs.Patterns.{largest_of}
use Rattle.grid_rules.proofs.largest.Goals as goal

pub returns : goal.returns
unfolding largest_of
returns c = rw (c.larger-7.ensures, c.larger-6.ensures, c.larger-5.ensures, c.larger-4.ensures, c.larger-3.ensures, c.larger-2.ensures, c.larger.ensures)
