-- The spacings are worked out first. Invariant: the first j places of the four columns hold what is
-- found at the first j longitudes and latitudes (`UpTo`, `WholeUpTo`). A turn fills one more place
-- of each (`one_more`). Assumes nothing.
use Rattle.grid.specs.Lookup.{found_in}
use Rattle.blocks.specs.Each.{at, UpTo, WholeUpTo}
use Rattle.std.proofs.Common.{ℕ}
use Rattle.grid.proofs.found_block.Given as goal

abbrev pub invariant-loop-j : goal.invariant-loop-j
invariant-loop-j l =
    WholeUpTo l.j l.m (λ (k : ℕ). (found_in l.g l.rows l.columns (at l.lam k) (at l.phi k)).mark)
    × UpTo l.j l.east (λ (k : ℕ). (found_in l.g l.rows l.columns (at l.lam k) (at l.phi k)).east)
    × UpTo l.j l.north (λ (k : ℕ). (found_in l.g l.rows l.columns (at l.lam k) (at l.phi k)).north)
    × UpTo l.j l.up (λ (k : ℕ). (found_in l.g l.rows l.columns (at l.lam k) (at l.phi k)).up)
