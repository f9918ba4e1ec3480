-- Six numbers, each where the definition has it. Assumes nothing.
use Rattle.std.proofs.Common.{add_assoc}
use Rattle.grid.specs.Lookup.{pair_at}
use Rattle.grid.proofs.cut_pair.Goals as goal

pub returns : goal.returns
unfolding pair_at
returns c = rw (c.number-6.ensures, c.number-5.ensures, c.number-4.ensures, c.number-3.ensures, c.number-2.ensures, c.number.ensures, add_assoc c.args.at 24 8, add_assoc c.args.at 24 16)
