use Rattle.grid_rules.proofs.Patterns.{none_yet, none_there, one_more_finite, next_eight_finite}
use mathlib.Core.Path.{refl}
use Rattle.grid_rules.proofs.all_finite.Goals as goal

pub returns-then-g-lt8 : goal.returns-then-g-lt8
returns-then-g-lt8 c = none_there _ c.if-g-lt8.true

pub loop-part-init : goal.loop-part-init
loop-part-init c = (refl, none_yet _)

pub loop-part-preserved : goal.loop-part-preserved
loop-part-preserved c = let i = c.loop-part.invariant in (i.0, next_eight_finite _ _ _ _ _ c.worst_of_eight.ensures c.larger-w.ensures i.1)

pub loop-k-preserved : goal.loop-k-preserved
loop-k-preserved c = let i = c.loop-k.invariant in (i.0, one_more_finite _ _ _ _ _ c.worst_of_one.ensures c.larger-w-in-loop-k.ensures i.1)
