use borrow.Author.Rules.{rules}
use mathlib.Core.Path.{refl, ap}
use Rattle.blocks.proofs.Laws.{none_filled, one_more, all_filled}
use Rattle.trig.specs.declared.SinCos.{SinCos}
use Rattle.trig_block.proofs.usual_sums.Goals as goal

pub loop-i-init : goal.loop-i-init
loop-i-init c = (none_filled refl, none_filled refl)

pub loop-i-preserved : goal.loop-i-preserved
loop-i-preserved c =
    let l = c.loop-i in
    (one_more (search rules) (ap (λ (q : SinCos). q.s) c.usual_both-q.ensures) l.invariant.0, one_more (search rules) (ap (λ (q : SinCos). q.c) c.usual_both-q.ensures) l.invariant.1)

pub returns : goal.returns
returns c = (all_filled (search rules) c.loop-i.invariant.0, all_filled (search rules) c.loop-i.invariant.1)
