-- Invariant (`Walked`): what stands before index i, followed by what the run makes from there on, is
-- the run of the whole list, and so are the tallies. Assumes nothing.
use mathlib.Core.List.{[]}
use Rattle.plans.specs.Lent.{lent_of}
use Rattle.plans.specs.Plans.{plan_pass_of, plan_start_of}
use Rattle.thin.proofs.Laws.{Walked}
use Rattle.thin.proofs.run_step.Given as goal

abbrev pub invariant-loop-i : goal.invariant-loop-i
invariant-loop-i l = Walked (plan_pass_of (lent_of l.velocities l.marks []) l.plan) (plan_start_of l.plan) l.initial.list l.i l.at l.list
