-- Invariant: the two columns are as long and equal before i (`Copied`). A turn copies one number
-- (`copied_again`), and at the length the two are equal (`copied_end`). Assumes nothing.
use Rattle.stretch.proofs.Copied.{Copied}
use Rattle.stretch_results.proofs.copy.Given as goal

abbrev pub invariant-loop-i : goal.invariant-loop-i
invariant-loop-i l = Copied l.from l.i l.to
