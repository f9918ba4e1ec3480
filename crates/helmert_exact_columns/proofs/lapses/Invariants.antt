-- Invariant: the first j numbers of d are the lapses of the first j rows (`UpTo`, `lapse_of`), and
-- the state is that after those rows (`states_of`). A turn takes the state on by one row
-- (`state-more`) and writes its lapse (`one_more`). At j = 16 the whole block is filled
-- (`all_filled`). Assumes nothing.
use mathlib.Core.Path.{◌≡◌}
use Rattle.blocks.specs.Each.{UpTo}
use Rattle.helmert_exact_columns.specs.Exact.{states_of, lapse_of}
use Rattle.helmert_exact_columns.proofs.lapses.Given as goal

abbrev pub invariant-loop-j : goal.invariant-loop-j
invariant-loop-j l = UpTo l.j l.d (lapse_of l.own l.shift l.initial.state l.t l.i) × (l.state ≡ states_of l.own l.shift l.initial.state l.t l.i l.j)
