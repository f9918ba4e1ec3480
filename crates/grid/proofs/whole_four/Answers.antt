-- Twelve numbers, each where the definition has it. Assumes nothing.
use Rattle.grid.specs.Lookup.{pair_at, four_at}
use Rattle.grid.proofs.whole_four.Goals as goal

pub returns : goal.returns
unfolding pair_at four_at
returns c = rw (c.number-12.ensures, c.number-11.ensures, c.number-10.ensures, c.number-9.ensures, c.number-8.ensures, c.number-7.ensures, c.number-6.ensures, c.number-5.ensures, c.number-4.ensures, c.number-3.ensures, c.number-2.ensures, c.number.ensures)
