-- Inside, both counts are in rule (`inside-counts`), which the lookup asks; outside NaNs.
-- Assumes nothing.
use Rattle.grid.proofs.Laws.{inside-counts}
use Rattle.std.proofs.Common.{sym, ◌∙◌}
use Rattle.grid.specs.Lookup.{found_in}
use Rattle.floats.proofs.Nan.{zero_over_zero}
use Rattle.grid.proofs.found_in.Goals as goal

pub looked_up-v-requires : goal.looked_up-v-requires
looked_up-v-requires c = inside-counts _ _ _ _ (sym c.inside.ensures ∙ c.if-inside.true)

pub returns-then-inside : goal.returns-then-inside
unfolding found_in
returns-then-inside c = rw (c.looked_up-v.ensures, ← c.inside.ensures, c.if-inside.true)

pub returns : goal.returns
unfolding found_in
returns c = rw (← c.inside.ensures, c.if-inside.false, zero_over_zero)
