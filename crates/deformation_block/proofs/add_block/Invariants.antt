-- Invariant (`Over`): the first i numbers of r are the sums v + r, NaN where the mark is not 1
-- (`kept_of`), and the others are still the corrections that r came with. So the correction that a
-- turn reads at i is the one that came there, and it writes what `kept` makes of the sum. At i = 16
-- the whole block is written (`all_over`). Assumes nothing.
use Prim.Native.Nat.{ℕ}
use Rattle.floats.specs.Binary64.{◌⊕◌}
use Rattle.blocks.specs.Each.{at, whole_at}
use Rattle.deformation_block.specs.Places.{kept_of}
use Rattle.blocks.proofs.Over.{Over}
use Rattle.deformation_block.proofs.add_block.Given as goal

abbrev pub invariant-loop-i : goal.invariant-loop-i
invariant-loop-i l = Over l.i l.initial.r l.r (λ (j : ℕ). kept_of (whole_at l.marks j) (at l.v j ⊕ at l.initial.r j))
