-- Invariant: s and c are blocks whose first i elements are the sine and cosine that `usual_from`
-- makes of each angle, its reduction and its row (`UpTo`). A turn writes one of each by the
-- contract of `usual_both` (`one_more`), and at i = 16 all are written (`all_filled`). Assumes
-- nothing.
use Prim.Native.Nat.{ℕ}
use Rattle.blocks.specs.Each.{at, UpTo}
use Rattle.trig_block.specs.Block.{usual_from}
use Rattle.trig_block.proofs.usual_sums.Given as goal

abbrev pub invariant-loop-i : goal.invariant-loop-i
invariant-loop-i l =
    UpTo l.i l.s (λ (j : ℕ). (usual_from (at l.x j) (at l.rest j) (at l.tail j) (record { 0 = at l.sh j; 1 = at l.sl j; 2 = at l.ch j; 3 = at l.cl j })).s)
    × UpTo l.i l.c (λ (j : ℕ). (usual_from (at l.x j) (at l.rest j) (at l.tail j) (record { 0 = at l.sh j; 1 = at l.sl j; 2 = at l.ch j; 3 = at l.cl j })).c)
