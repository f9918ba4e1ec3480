-- Calls are replaced by what they ensure; the definition is left. Each number so far is at most the
-- index of the first fix, and what is added at most the rows, so the sums fit. Assumes nothing.
use mathlib.Core.Path.{refl}
use Rattle.plans.specs.Lent.{lent_in}
use Rattle.plans.specs.Plans.{plan_turns_of, plan_reach_of}
use Rattle.windows.proofs.Steps.{rows_few}
use borrow.Author.Rules.{rules}
use Rattle.windows.proofs.moved_on.Goals as goal

pub overflow_add-result : goal.overflow_add-result
overflow_add-result c =
    let a = c.args in
    let p = c.requires in
    let few = rows_few (plan_turns_of (lent_in a.lent) a.plan) a.first a.standing.state a.x.now a.y.now a.z.now a.t.now p.0 c.run-part.ensures.2 in
    search (rules, p.1, p.2.0, few)

pub overflow_add-result-2 : goal.overflow_add-result-2
overflow_add-result-2 c =
    let a = c.args in
    let p = c.requires in
    let few = rows_few (plan_reach_of (lent_in a.lent) a.plan) a.first a.standing.state a.x.now a.y.now a.z.now a.t.now p.0 c.run-part.ensures.3 in
    search (rules, p.1, p.2.1, few)

pub returns : goal.returns
returns c = let e = c.run-part.ensures in (e.0, rw (e.1, e.2, e.3) refl)
