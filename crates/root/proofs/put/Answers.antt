-- The pattern is below that of +inf. Assumes nothing.
use Rattle.std.proofs.Common.{◌+◌, ◌*◌, arith}
use Rattle.root.proofs.Patterns.{no_nan}
use Rattle.root.proofs.put.Goals as goal

pub float_from_bits-result : goal.float_from_bits-result
float_from_bits-result c = no_nan (c.args.k * 4503599627370496 + c.args.q) (omega arith)
