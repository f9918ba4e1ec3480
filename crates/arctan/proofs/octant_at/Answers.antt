-- One case for each return. Each by `beyond`. Assumes nothing.
use lib.ListN.{get_or-eq_default}
use lib.Ieee.{of_bits, neg}
use Rattle.arctan.proofs.Match.{beyond}
use Rattle.arctan.specs.Table.{octant_at, octants}
use Rattle.arctan.proofs.octant_at.Goals as goal

pub returns-in-0 : goal.returns-in-0
unfolding octant_at octants of_bits neg
returns-in-0 c = rw c.in-0.is

pub returns-in-1 : goal.returns-in-1
unfolding octant_at octants of_bits neg
returns-in-1 c = rw c.in-1.is

pub returns-in-2 : goal.returns-in-2
unfolding octant_at octants of_bits neg
returns-in-2 c = rw c.in-2.is

pub returns-in_default : goal.returns-in_default
unfolding octant_at octants of_bits neg
returns-in_default c = rw (get_or-eq_default octants _ (beyond 3 c.args.k c.in_default.in_default-own.rest))
