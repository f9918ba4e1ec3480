-- Between -1 and 2^64 the library's truncation, whose two conditions are the two tests;
-- outside by `whole-beyond` and `none_below`. Assumes nothing.
use Rattle.grid.proofs.WholePart.{whole-beyond, none_below}
use lib.Ieee.{of_bits, neg}
use Rattle.std.proofs.Common.{T, sym, subst}
use Rattle.grid.proofs.whole.Goals as goal

pub truncating_f64_to_u64-requires : goal.truncating_f64_to_u64-requires
unfolding of_bits neg
truncating_f64_to_u64-requires c = record { lower_bound = subst T (sym c.if-u.true) tt; upper_bound = subst T (sym c.if-u-2.true) tt }

pub returns-then-u : goal.returns-then-u
returns-then-u c = whole-beyond _ c.if-u.true c.if-u-2.false

pub returns : goal.returns
returns c = none_below _ c.if-u.false
