-- Inside, both counts are in rule (`inside-counts`), which the lookup asks; outside NaNs. Assumes
-- nothing.
use Rattle.grid.proofs.Laws.{inside-counts}
use Rattle.std.proofs.Common.{sym, ◌∙◌}
use Rattle.grid.specs.Lookup.{looked_up, found_in}
use Rattle.floats.proofs.Nan.{zero_over_zero}
use Rattle.grid.proofs.found_at.Goals as goal

pub velocity_at-found-requires : goal.velocity_at-found-requires
velocity_at-found-requires c = inside-counts _ _ _ _ (sym c.inside.ensures ∙ c.if-inside.true)

pub returns-then-inside : goal.returns-then-inside
unfolding found_in looked_up
returns-then-inside c =
    let p = c.requires in
    rw (c.velocity_at-found.ensures, p.0, p.1, ← c.inside.ensures, c.if-inside.true)

pub returns : goal.returns
unfolding found_in
returns c = rw (← c.inside.ensures, c.if-inside.false, zero_over_zero)
