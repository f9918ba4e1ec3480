-- A whole number up to 64 is a binary64 number. Assumes nothing.
use Rattle.std.proofs.Common.{◌^◌, le→leb, rules}
use lib.Ieee.{in_float}
use Rattle.grid.proofs.share.Goals as goal

pub int_to_float-result : goal.int_to_float-result
unfolding in_float
int_to_float-result c = le→leb c.args.k (2 ^ 53) (search rules)
