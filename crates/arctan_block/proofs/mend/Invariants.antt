-- Invariant: the first i numbers of r are mended (`mended_at`), and the others are still the angles
-- that r came with. So the angle that a turn reads at i is the one that came there; it writes what
-- `mended` makes of it, and the numbers after i stay. At i = 16 the whole block is mended. Assumes
-- nothing.
use Prim.Native.Nat.{ℕ}
use Rattle.blocks.proofs.Over.{Over}
use Rattle.arctan_block.specs.Block.{mended_at}
use Rattle.arctan_block.proofs.mend.Given as goal

abbrev pub invariant-loop-i : goal.invariant-loop-i
invariant-loop-i l = Over l.i l.initial.r l.r (λ (j : ℕ). mended_at l.y l.x l.quarters l.octants l.initial.r j)
