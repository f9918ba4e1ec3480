-- Invariant: the first j numbers of east, north and up are the velocities of the fixes from index k
-- on (`UpTo`, once for each column, `velocity_at`). A turn writes the three numbers of the velocity
-- of fix k + j (`one_more`); k is below 2^62, so k + j does not overflow. At j = 16 the three
-- columns are filled (`all_filled`). Assumes nothing.
use Prim.Native.Nat.{ℕ, ◌+◌}
use Rattle.blocks.specs.Each.{UpTo}
use Rattle.turns.specs.Turns.{velocity_at}
use Rattle.deformation_columns.proofs.velocity_block.Given as goal

abbrev pub invariant-loop-j : goal.invariant-loop-j
invariant-loop-j l = UpTo l.j l.east (λ (u : ℕ). (velocity_at l.velocities (l.k + u)).east) × UpTo l.j l.north (λ (u : ℕ). (velocity_at l.velocities (l.k + u)).north) × UpTo l.j l.up (λ (u : ℕ). (velocity_at l.velocities (l.k + u)).up)
