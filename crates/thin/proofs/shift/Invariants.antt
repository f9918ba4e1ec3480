-- Invariant (`Going`): the list is as long as at the start, and list and tallies are, as a flat list,
-- what the flat entry's loop over the steps has after as many turns (`Ahead`). Assumes nothing.
use lib.ListN.{length}
use Rattle.thin.specs.Sheets.{thin_refusal_of}
use Rattle.thin.proofs.Laws.{Going, answering}
use Rattle.thin.proofs.shift.Given as goal

abbrev pub invariant-loop-i : goal.invariant-loop-i
invariant-loop-i l =
    let refusal = thin_refusal_of l.s (length l.initial.list) l.velocities l.marks in
    Going l.inverse l.s l.velocities l.marks l.initial.list refusal l.n l.i l.list (answering refusal l.tallies)
