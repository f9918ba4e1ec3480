use borrow.Author.Rules.{rules}
use mathlib.Core.Path.{refl, ap, ◌∙◌}
use Rattle.blocks.proofs.Laws.{none_filled, one_more, all_filled}
use Rattle.floats.specs.Number.{abs_of}
use Rattle.trig.specs.declared.Reduced.{Reduced}
use Rattle.trig.specs.Trig.{reduced_of}
use Rattle.trig_block.proofs.smalls.Goals as goal

pub loop-i-init : goal.loop-i-init
loop-i-init c = (none_filled refl, none_filled refl, none_filled refl)

pub loop-i-preserved : goal.loop-i-preserved
loop-i-preserved c =
    let l = c.loop-i in
    let reduced = c.reduce-g.ensures ∙ ap reduced_of (c.abs.ensures ∙ ap abs_of c.number.ensures) in (
      one_more (search rules) (ap (λ (g : Reduced). g.step) reduced) l.invariant.0,
      one_more (search rules) (ap (λ (g : Reduced). g.rest) reduced) l.invariant.1,
      one_more (search rules) (ap (λ (g : Reduced). g.tail) reduced) l.invariant.2,
    )

pub returns : goal.returns
returns c =
    let l = c.loop-i.invariant in
    (all_filled (search rules) l.0, all_filled (search rules) l.1, all_filled (search rules) l.2)
