-- Inverse (`Backward`): the list is what the steps from index i on make of the list at the start,
-- the last step first, and the tallies from i on are theirs, followed by zeros. A turn runs the
-- record's step before i (`run_step`, `entry_of`), which adds that step to those that have run
-- (`backward-again`). At i = 0 all steps have run (`backward-end`).
-- Forward (`Forward`): the steps from index i on make of the list as it stands what all steps make
-- of the list at the start; the tallies before i, followed by those of these steps, are all the
-- tallies; and the tallies from i on are still zeros. A turn runs step i and writes its tally at i
-- (`forward-again`). At i = n no step is left (`forward-end`). Assumes nothing.
use Rattle.sheet.specs.Layout.{entry_of}
use Rattle.plans.specs.Lent.{lent_in}
use Rattle.chain.proofs.Laws.{Forward, Backward}
use Rattle.chain_record.proofs.over_record.Given as goal

abbrev pub invariant-loop-i : goal.invariant-loop-i
invariant-loop-i l = Backward (lent_in l.lent) (entry_of l.kept) l.n l.initial.list l.i l.list l.tallies

abbrev pub invariant-loop-i-else-inverse : goal.invariant-loop-i-else-inverse
invariant-loop-i-else-inverse l = Forward (lent_in l.lent) (entry_of l.kept) l.n l.initial.list l.i l.list l.tallies
