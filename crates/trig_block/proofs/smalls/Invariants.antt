-- Invariant: the first i elements of step, rest and tail are the reductions of the magnitudes of
-- the first i angles, with 0 for a NaN (`step_of`, `rest_of`, `tail_of`; `WholeUpTo` for the steps,
-- which are whole numbers, and `UpTo` for the others). A turn writes one reduction more by the
-- contracts of `number`, `abs` and `reduce` (`one_more`). At i = 16 all are written (`all_filled`).
-- Assumes nothing.
use Prim.Native.Nat.{ℕ}
use Rattle.blocks.specs.Each.{at, UpTo, WholeUpTo}
use Rattle.trig_block.specs.Block.{step_of, rest_of, tail_of}
use Rattle.trig_block.proofs.smalls.Given as goal

abbrev pub invariant-loop-i : goal.invariant-loop-i
invariant-loop-i l =
    WholeUpTo l.i l.step (λ (j : ℕ). step_of (at l.x j)) × UpTo l.i l.rest (λ (j : ℕ). rest_of (at l.x j)) × UpTo l.i l.tail (λ (j : ℕ). tail_of (at l.x j))
