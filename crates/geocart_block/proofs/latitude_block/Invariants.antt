-- Invariant: the first i numbers of r are the latitudes of the first i points, phi or a pole's
-- where p is below the cutoff (`UpTo`, `latitude_of`). A turn writes what `latitude` gives for
-- point i (`one_more`). At i = 16 the whole block is filled (`all_filled`). Assumes nothing.
use Prim.Native.Nat.{ℕ}
use Rattle.blocks.specs.Each.{at, UpTo}
use Rattle.geocart_block.specs.Blocks.{latitude_of}
use Rattle.geocart_block.proofs.latitude_block.Given as goal

abbrev pub invariant-loop-i : goal.invariant-loop-i
invariant-loop-i l =
    UpTo l.i l.r (λ (j : ℕ). latitude_of l.cutoff (at l.p j) (at l.z j) (at l.phi j))
