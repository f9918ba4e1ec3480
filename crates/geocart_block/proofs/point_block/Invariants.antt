-- Invariant: the first i numbers of x, y and z are those of the first i points, from √w, the height
-- and the sines and cosines of latitude and longitude (`UpTo`, once for each column, `point_of`). A
-- turn calls `point_at` once for point i and writes its three numbers (`one_more`). At i = 16 the
-- three columns are filled (`all_filled`). Assumes nothing.
use Prim.Native.Nat.{ℕ}
use Rattle.blocks.specs.Each.{at, UpTo}
use Rattle.ellipsoid.specs.Figure.{prime_vertical_with}
use Rattle.geocart.specs.Geocart.{point_of}
use Rattle.geocart_block.proofs.point_block.Given as goal

abbrev pub invariant-loop-i : goal.invariant-loop-i
invariant-loop-i l =
    UpTo l.i l.x (λ (j : ℕ). (point_of l.ellps (prime_vertical_with l.ellps (at l.rootw j)) (at l.h j) (at l.sinphi j) (at l.cosphi j) (at l.sinlam j) (at l.coslam j)).x)
    × UpTo l.i l.y (λ (j : ℕ). (point_of l.ellps (prime_vertical_with l.ellps (at l.rootw j)) (at l.h j) (at l.sinphi j) (at l.cosphi j) (at l.sinlam j) (at l.coslam j)).y)
    × UpTo l.i l.z (λ (j : ℕ). (point_of l.ellps (prime_vertical_with l.ellps (at l.rootw j)) (at l.h j) (at l.sinphi j) (at l.cosphi j) (at l.sinlam j) (at l.coslam j)).z)
