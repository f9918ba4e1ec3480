-- One case for each mode: calls are replaced by what they ensure, and the definition is left.
-- Assumes nothing.
use Rattle.helmert_exact_columns.specs.Exact.{met_of}
use Rattle.helmert_exact_columns.proofs.met.Goals as goal

pub returns-then-own : goal.returns-then-own
unfolding met_of
returns-then-own c = rw (c.grown-t.ensures, c.if-own.true)

pub returns : goal.returns
unfolding met_of
returns c = rw (c.next.ensures, c.if-own.false)
