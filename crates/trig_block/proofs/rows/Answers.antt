use borrow.Author.Rules.{rules}
use mathlib.Core.Path.{refl, ap}
use Rattle.blocks.proofs.Laws.{none_filled, one_more, all_filled}
use Rattle.trig.specs.declared.Row.{Row}
use Rattle.trig_block.proofs.rows.Goals as goal

pub loop-i-init : goal.loop-i-init
loop-i-init c = (none_filled refl, none_filled refl, none_filled refl, none_filled refl)

pub loop-i-preserved : goal.loop-i-preserved
loop-i-preserved c =
    let l = c.loop-i in
    let here = c.row-w.ensures in (
      one_more (search rules) (ap (λ (w : Row). w.0) here) l.invariant.0,
      one_more (search rules) (ap (λ (w : Row). w.1) here) l.invariant.1,
      one_more (search rules) (ap (λ (w : Row). w.2) here) l.invariant.2,
      one_more (search rules) (ap (λ (w : Row). w.3) here) l.invariant.3,
    )

pub returns : goal.returns
returns c =
    let l = c.loop-i.invariant in
    (all_filled (search rules) l.0, all_filled (search rules) l.1, all_filled (search rules) l.2, all_filled (search rules) l.3)
