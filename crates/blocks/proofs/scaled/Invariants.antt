-- Invariant: r is a block whose first i elements are k times those of x (`UpTo`). A turn writes one
-- more (`one_more`), and at i = 16 all are written (`all_filled`). Assumes nothing.
use Prim.Native.Nat.{ℕ}
use Rattle.floats.specs.Binary64.{◌⊗◌}
use Rattle.blocks.specs.Each.{at, UpTo}
use Rattle.blocks.proofs.scaled.Given as goal

abbrev pub invariant-loop-i : goal.invariant-loop-i
invariant-loop-i l = UpTo l.i l.r (λ (j : ℕ). l.k ⊗ at l.x j)
