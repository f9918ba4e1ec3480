use native.Mathlib.Omega.{arith}
use borrow.Author.Rules.{rules}
use mathlib.Core.Path.{◌∙◌}
use lib.ListN.{length-set}
use Rattle.plans.proofs.Arrays.{at_most_sixteen_lem, ready-again}
use Rattle.sheet_plans.proofs.plans_of.Goals as goal

pub loop-i-init : goal.loop-i-init
loop-i-init c = (rw c.at_most_sixteen-steps.ensures (at_most_sixteen_lem _), search rules, λ i h. absurd (omega (arith, h)))

pub loop-i-preserved : goal.loop-i-preserved
loop-i-preserved c = let l = c.loop-i in (l.invariant.0, length-set l.plans l.i _ ∙ l.invariant.1, ready-again _ l.plans l.i l.invariant.1 (omega (arith, l.invariant.0, c.loop-i-test.true)) c.plan_at.ensures l.invariant.2)

pub returns : goal.returns
returns c = λ i h. c.loop-i.invariant.2 i (omega (arith, h, c.at_most_sixteen-steps.ensures, c.loop-i-test.false))
