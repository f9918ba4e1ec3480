-- Invariant: the first i numbers of t are T of the first i points (`tangent_of`), and those of u
-- are 1 + T² (`UpTo`, once for each column). A turn computes T once for point i (`tangent`) and
-- writes both numbers (`one_more`). At i = 16 both columns are filled (`all_filled`). Assumes
-- nothing.
use Prim.Native.Nat.{ℕ}
use Rattle.blocks.specs.Each.{at, UpTo}
use Rattle.geocart.specs.Geocart.{tangent_of, radicand_of}
use Rattle.geocart_block.proofs.tangent_block.Given as goal

abbrev pub invariant-loop-i : goal.invariant-loop-i
invariant-loop-i l =
    UpTo l.i l.t (λ (j : ℕ). tangent_of l.ellps (at l.p j) (at l.z j))
    × UpTo l.i l.u (λ (j : ℕ). radicand_of (tangent_of l.ellps (at l.p j) (at l.z j)))
