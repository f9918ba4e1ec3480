-- 52 bits and a leading one. Assumes nothing.
use Rattle.std.proofs.Common.{◌+◌, ◌-◌, ◌/◌, ◌%◌, arith}
use Rattle.root.proofs.Patterns.{no_nan}
use Rattle.root.proofs.guess.Goals as goal

pub float_from_bits-t : goal.float_from_bits-t
float_from_bits-t c = no_nan (c.args.b % 9007199254740992 + 4602678819172646912) (omega arith)

pub float_from_bits-t-2 : goal.float_from_bits-t-2
float_from_bits-t-2 c = no_nan (6910421784479137792 - (c.args.b % 9007199254740992 + 4602678819172646912) / 2) (omega arith)
