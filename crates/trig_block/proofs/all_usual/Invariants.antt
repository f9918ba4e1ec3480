-- Invariant: `all` tells whether each of the first i angles is usual (`Tells`, `usual_of`). A turn
-- asks one more angle by the contract of `usual` (`one_asked`). At i = 16 all are asked
-- (`all_asked`). Assumes nothing.
use Prim.Native.Nat.{ℕ}
use Rattle.blocks.specs.Each.{at, Tells}
use Rattle.trig_block.specs.Block.{usual_of}
use Rattle.trig_block.proofs.all_usual.Given as goal

abbrev pub invariant-loop-i : goal.invariant-loop-i
invariant-loop-i l = Tells l.i (λ (j : ℕ). usual_of (at l.x j)) l.all
