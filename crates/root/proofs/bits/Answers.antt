-- One case for each return. Each by `no_nan_of`. Assumes nothing.
use Rattle.root.proofs.Patterns.{no_nan_of}
use Rattle.root.proofs.bits.Goals as goal

pub float_to_bits-result : goal.float_to_bits-result
float_to_bits-result c = no_nan_of c.args.x c.if-x.false
