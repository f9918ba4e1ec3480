-- Invariant: the first i numbers of w are w of the first i sines (`UpTo`, `w_of`). A turn writes
-- the number at i with the definition's own roundings (`one_more`). At i = 16 the whole block is
-- filled (`all_filled`). Assumes nothing.
use Prim.Native.Nat.{ℕ}
use Rattle.blocks.specs.Each.{at, UpTo}
use Rattle.ellipsoid.specs.Figure.{w_of}
use Rattle.ellipsoid.proofs.w_block.Given as goal

abbrev pub invariant-loop-i : goal.invariant-loop-i
invariant-loop-i l = UpTo l.i l.w (λ (j : ℕ). w_of l.ellps (at l.sinphi j))
