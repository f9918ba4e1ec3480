-- Invariant (`Over`, once for each column): the first i numbers of dx, dy and dz are the
-- corrections of the first i tuples (`turned_at`), and the others are still what came there, the
-- sines and cosines of the latitudes and the cosines of the longitudes. So a turn reads at i what
-- came there, and writes the three numbers of the correction over it. At i = 16 the three columns
-- are written (`all_over`). Assumes nothing.
use Prim.Native.Nat.{ℕ}
use Rattle.deformation_block.specs.Places.{turned_at}
use Rattle.blocks.proofs.Over.{Over}
use Rattle.deformation_block.proofs.turned_block.Given as goal

abbrev pub invariant-loop-i : goal.invariant-loop-i
invariant-loop-i l =
    Over l.i l.initial.dx l.dx (λ (j : ℕ). (turned_at l.op l.fixed l.k l.east l.north l.up l.t l.slon l.initial.dz l.initial.dx l.initial.dy j).x)
    × Over l.i l.initial.dy l.dy (λ (j : ℕ). (turned_at l.op l.fixed l.k l.east l.north l.up l.t l.slon l.initial.dz l.initial.dx l.initial.dy j).y)
    × Over l.i l.initial.dz l.dz (λ (j : ℕ). (turned_at l.op l.fixed l.k l.east l.north l.up l.t l.slon l.initial.dz l.initial.dx l.initial.dy j).z)
