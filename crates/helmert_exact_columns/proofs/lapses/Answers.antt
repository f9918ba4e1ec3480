use borrow.Author.Rules.{rules}
use mathlib.Core.Path.{refl, ap}
use Rattle.floats.specs.Binary64.{◌⊖◌}
use Rattle.blocks.proofs.Laws.{none_filled, one_more, all_filled}
use Rattle.helmert.specs.declared.State.{State}
use Rattle.helmert_exact_columns.proofs.Laws.{state-more, one_on}
use Rattle.helmert_exact_columns.proofs.lapses.Goals as goal

pub loop-j-init : goal.loop-j-init
loop-j-init c = (none_filled refl, refl)

pub loop-j-preserved : goal.loop-j-preserved
loop-j-preserved c =
    let l = c.loop-j in
    let a = c.args in
    let e = state-more a.own a.shift a.from a.t.now a.i l.j l.invariant.1 c.met-state.ensures in
    (one_more (search rules) (ap (λ (q : State). q.last ⊖ a.shift.epoch) e) l.invariant.0, one_on a.own a.shift a.from a.t.now a.i l.j e)

pub returns : goal.returns
returns c = all_filled (search rules) c.loop-j.invariant.0
