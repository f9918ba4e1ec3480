use borrow.Author.Rules.{rules}
use native.Mathlib.Omega.{arith}
use Rattle.helmert_still_columns.proofs.Laws.{still-more}
use Rattle.helmert_still_columns.proofs.run_end.Goals as goal

pub loop-end-init : goal.loop-end-init
loop-end-init c = (search rules, λ h. h, λ k a b. absurd (omega (arith, a, b)))

pub returns-then-t-end : goal.returns-then-t-end
returns-then-t-end c = c.loop-end.invariant

pub loop-end-preserved : goal.loop-end-preserved
loop-end-preserved c = let l = c.loop-end in let a = c.args in (search rules, λ h. search rules, still-more a.t.now a.last a.i l.end l.invariant.2 c.if-t-end.false)

pub returns : goal.returns
returns c =
    let l = c.loop-end in
    let past = c.loop-end-test.false in
    (search (rules, arith), λ h. search (rules, arith), λ k a b. l.invariant.2 k a (search (rules, arith, past)))
