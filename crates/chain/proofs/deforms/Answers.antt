use borrow.Author.Rules.{rules}
use native.Mathlib.Omega.{arith}
use mathlib.Core.Path.{◌≡◌, refl, ap, ◌∙◌}
use Rattle.sheet.specs.Layout.{kind_at}
use Rattle.sheet.specs.Rules.{has_deformation}
use Rattle.sheet.proofs.Order.{before-next}
use Rattle.chain.proofs.deforms.Goals as goal

pub loop-i-init : goal.loop-i-init
unfolding has_deformation
loop-i-init c = (search rules, refl)

pub loop-i-preserved : goal.loop-i-preserved
loop-i-preserved c = (search rules, rw (before-next, ← c.kind_at.ensures, ← c.loop-i.invariant.1))

pub returns : goal.returns
returns c = let l = c.loop-i in let s : l.i ≡ c.args.n = omega arith in l.invariant.1 ∙ ap (has_deformation (kind_at c.args.s.now)) s
