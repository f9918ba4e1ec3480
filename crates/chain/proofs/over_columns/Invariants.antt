-- Inverse (`Backward`): the columns are what the steps from index i on have made of them, the last
-- first, and the tallies from i on are theirs. A turn runs the step before i (`backward-again`). At
-- i = 0 every step has run (`backward-end`).
-- Forward (`Forward`): the steps from index i on make of the columns as they stand what all steps
-- make of the columns at the start; the tallies before i, followed by the tallies of those steps,
-- are all the tallies; and the tallies from i on are still zeros. A turn runs step i and writes its
-- tally at i (`forward-again`). At i = n no step is left (`forward-end`). Assumes nothing.
use mathlib.Core.Path.{◌≡◌}
use lib.ListN.{length}
use Rattle.columns.specs.Columns.{Level, flat_of}
use Rattle.sheet.specs.Layout.{entry_at}
use Rattle.plans.specs.Lent.{lent_in}
use Rattle.chain.proofs.Laws.{Forward, Backward}
use Rattle.chain.proofs.over_columns.Given as goal

abbrev pub invariant-loop-i : goal.invariant-loop-i
invariant-loop-i l =
    Level l.x l.y l.z l.t × (length l.x ≡ length l.initial.x) × Backward (lent_in l.lent) (entry_at l.s) l.n (flat_of l.initial.x l.initial.y l.initial.z l.initial.t) l.i (flat_of l.x l.y l.z l.t) l.tallies

abbrev pub invariant-loop-i-else-inverse : goal.invariant-loop-i-else-inverse
invariant-loop-i-else-inverse l =
    Level l.x l.y l.z l.t × (length l.x ≡ length l.initial.x) × Forward (lent_in l.lent) (entry_at l.s) l.n (flat_of l.initial.x l.initial.y l.initial.z l.initial.t) l.i (flat_of l.x l.y l.z l.t) l.tallies
