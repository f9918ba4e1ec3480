-- Invariant (`Counted`, twice): with what the rows from i on count from the state that stands, each
-- number so far is that of the whole list from the state at the start. A turn reads a row, counts it
-- in either number and moves the state on (`count_along`). Neither number is over i. Assumes nothing.
use Prim.Native.Nat.{◌*◌, ◌≤◌}
use lib.ListN.{length}
use Rattle.lists.proofs.Laws.{Counted}
use Rattle.plans.specs.Passes.{meets}
use Rattle.kept_reach.specs.Reach.{time_pass}
use Rattle.kept_reach.proofs.pass.Given as goal

abbrev pub invariant-loop-i : goal.invariant-loop-i
invariant-loop-i g l =
    let flat = g.R.Rows.flat l.list in
    (l.count ≤ l.i) × (l.met ≤ l.i)
    × Counted (time_pass l.shift).turns l.initial.state flat (4 * l.i) l.state flat l.count
    × Counted (meets (time_pass l.shift)) l.initial.state flat (4 * l.i) l.state flat l.met
