-- One case for each way through the tests. Calls are replaced by what they ensure; the definition
-- is left. Assumes nothing.
use mathlib.Core.Path.{sym}
use Rattle.words.specs.Words.{one_nan_at, number_at}
use Rattle.words.proofs.one_nan.Goals as goal

pub returns-then-is_nan : goal.returns-then-is_nan
unfolding one_nan_at number_at
returns-then-is_nan c = rw (sym c.read64-pattern.ensures, sym c.of_bits.ensures, sym c.is_nan.ensures, c.if-is_nan.true)

pub returns : goal.returns
unfolding one_nan_at number_at
returns c = rw (sym c.read64-pattern.ensures, sym c.of_bits.ensures, sym c.is_nan.ensures, c.if-is_nan.false)
