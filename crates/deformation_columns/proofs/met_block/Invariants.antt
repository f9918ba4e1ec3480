-- Invariant: n of the first i places have mark 1 and longitude or latitude out of reach
-- (`CountedBefore`). A turn counts place i (`one_counted`), and at i = 16 the block is counted
-- (`all_counted`). Assumes nothing.
use Prim.Native.Nat.{ℕ}
use mathlib.Core.Bool.{◌&&◌}
use lib.Dec.{eqb}
use Rattle.blocks.specs.Each.{at, whole_at}
use Rattle.blocks.proofs.Counts.{CountedBefore}
use Rattle.reach.specs.Met.{place_out}
use Rattle.deformation_columns.proofs.met_block.Given as goal

abbrev pub invariant-loop-i : goal.invariant-loop-i
invariant-loop-i l = CountedBefore l.i (λ (j : ℕ). eqb (whole_at l.m j) 1 && place_out (at l.lam j) (at l.phi j)) l.n
