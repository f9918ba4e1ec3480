-- The plans stand for the sheet's steps, and by `windows_are_the_chain` what they make of the list in
-- windows is the chain. Assumes nothing.
use native.Mathlib.Omega.{arith}
use mathlib.Core.Path.{◌∙◌}
use Rattle.plans.proofs.Arrays.{sixteen_or_fewer}
use Rattle.plans.specs.Lent.{lent_in}
use Rattle.chain.proofs.Windows.{windows_are_the_chain}
use Rattle.chain.proofs.planned.Goals as goal

pub returns : goal.returns
returns c =
    let e = c.over.ensures in
    let a = c.args in
    let ready = rw (sixteen_or_fewer a.n c.requires.0) at c.plans_of.ensures in
    let law = windows_are_the_chain a.inverse (lent_in a.lent) a.s.now _ a.n a.list.now (omega (arith, c.requires.1)) c.requires.0 ready in
    (e.0 ∙ law.0, e.1 ∙ law.1)
