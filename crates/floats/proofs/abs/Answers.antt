-- One case for each way through the tests. Each by `abs_by_difference` and `abs_of_the_rest`.
-- Assumes nothing.
use mathlib.Core.Path.{sym, subst}
use lib.Dec.{T}
use Rattle.floats.proofs.Values.{abs_by_difference, abs_of_the_rest}
use Rattle.floats.proofs.abs.Goals as goal

pub returns-then-x : goal.returns-then-x
returns-then-x c = abs_by_difference c.args.x (subst T (sym c.well_formed.0.1) tt) c.if-x.true

pub returns-else-x : goal.returns-else-x
returns-else-x c = abs_of_the_rest c.args.x c.if-x.false
