-- Six numbers, each where the definition has it. Assumes nothing.
use Rattle.grid.specs.Lookup.{pair_at}
use Rattle.grid.proofs.whole_pair.Goals as goal

pub returns : goal.returns
unfolding pair_at
returns c = rw (c.number-6.ensures, c.number-5.ensures, c.number-4.ensures, c.number-3.ensures, c.number-2.ensures, c.number.ensures)
