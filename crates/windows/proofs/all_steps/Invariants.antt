-- Inverse (`Backward`): the window is what the steps from index i on have made of it, the last first;
-- the standings from i on are theirs, and those before i are as they were. A turn runs the step
-- before i (`backward-again`).
-- Forward (`Forward`): the steps from index i on, each from its standing before the window, make of
-- the window as it stands what all steps make of the window at the start; the standings before i,
-- followed by those of these steps, are all the standings; and the standings from i on are as they
-- were. A turn runs step i (`forward-again`). Assumes nothing.
use mathlib.Core.Path.{◌≡◌}
use lib.ListN.{length}
use Rattle.columns.specs.Columns.{Level, flat_of}
use Rattle.windows.specs.Steps.{pass_in}
use Rattle.windows.proofs.Steps.{Forward, Backward}
use Rattle.plans.specs.Lent.{lent_in}
use Rattle.windows.proofs.all_steps.Given as goal

abbrev pub invariant-loop-i : goal.invariant-loop-i
invariant-loop-i l =
    Level l.x l.y l.z l.t × (length l.x ≡ length l.initial.x) × Backward (pass_in (lent_in l.lent) l.plans) l.n l.first l.initial.standings (flat_of l.initial.x l.initial.y l.initial.z l.initial.t) l.i l.standings (flat_of l.x l.y l.z l.t)

abbrev pub invariant-loop-i-else-inverse : goal.invariant-loop-i-else-inverse
invariant-loop-i-else-inverse l =
    Level l.x l.y l.z l.t × (length l.x ≡ length l.initial.x) × Forward (pass_in (lent_in l.lent) l.plans) l.n l.first l.initial.standings (flat_of l.initial.x l.initial.y l.initial.z l.initial.t) l.i l.standings (flat_of l.x l.y l.z l.t)
