-- Invariant (`Read`): the tallies before i are those of the standings before i. Assumes nothing.
use Rattle.windows.proofs.Steps.{Read}
use Rattle.windows.proofs.tallies_of.Given as goal

abbrev pub invariant-loop-i : goal.invariant-loop-i
invariant-loop-i l = Read l.standings l.i l.tallies
