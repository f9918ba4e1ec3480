-- A pattern above an infinity's, its sign aside, is a NaN's. Assumes nothing.
use mathlib.Core.Path.{sym, ◌∙◌}
use Rattle.floats.proofs.Nan.{no_nan_bits, nan-bits, zero_over_zero}
use Rattle.floats.proofs.of_bits.Goals as goal

pub float_from_bits-result : goal.float_from_bits-result
float_from_bits-result c = no_nan_bits c.args.b c.if-b-gt9218868437227405312.false

pub returns-then-b-gt9218868437227405312 : goal.returns-then-b-gt9218868437227405312
returns-then-b-gt9218868437227405312 c = zero_over_zero ∙ sym (nan-bits c.args.b c.if-b-gt9218868437227405312.true)
