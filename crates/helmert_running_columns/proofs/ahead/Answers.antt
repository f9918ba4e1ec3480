use borrow.Author.Rules.{rules}
use mathlib.Core.Path.{◌≡◌, refl, ap, ◌∙◌}
use Rattle.helmert_running_columns.specs.Lanes.{states_of}
use Rattle.helmert_running_columns.proofs.Laws.{lanes_start, lanes-more, lanes_all, state-more, one_on}
use Rattle.helmert_running_columns.proofs.ahead.Goals as goal

pub loop-j-init : goal.loop-j-init
loop-j-init c = (lanes_start _ _ _ _ refl refl refl refl, refl, search rules)

pub loop-j-preserved : goal.loop-j-preserved
loop-j-preserved c =
    let l = c.loop-j in
    let a = c.args in
    let e = state-more a.shift a.from a.t.now a.i l.j l.invariant.1 c.next-state.ensures in
    (lanes-more a.shift a.from a.t.now a.i (search rules) e l.invariant.0, one_on a.shift a.from a.t.now a.i l.j e, search rules)

pub returns : goal.returns
returns c =
    let l = c.loop-j in
    let a = c.args in
    let all : l.j ≡ 16 = search rules in
    (lanes_all a.shift a.from a.t.now a.i (search rules) l.invariant.0, l.invariant.1 ∙ ap (states_of a.shift a.from a.t.now a.i) all)
