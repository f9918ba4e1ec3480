use native.Mathlib.Omega.{arith}
use mathlib.Core.Path.{refl, sym, ◌∙◌}
use Rattle.closure_page.proofs.Figures.{check_on, check_end}
use Rattle.closure_page.proofs.check_word.Goals as goal

pub loop-n-init : goal.loop-n-init
loop-n-init c = (omega arith, omega arith, refl)

pub heard-requires : goal.heard-requires
heard-requires c = (c.loop-n.invariant.1, omega (arith, c.type_inv.numbers c.loop-n.n-index))

pub heard-c-requires : goal.heard-c-requires
heard-c-requires c = (c.heard.ensures.1, omega arith)

pub loop-n-preserved : goal.loop-n-preserved
loop-n-preserved c = let test = c.loop-n-test.true in
    (omega arith, c.heard-c.ensures.1, c.loop-n.invariant.2 ∙ check_on _ _ _ test ∙ rw (c.heard-c.ensures.0, c.heard.ensures.0))

pub returns : goal.returns
returns c = sym (c.loop-n.invariant.2 ∙ check_end _ _ _ c.loop-n-test.false)
