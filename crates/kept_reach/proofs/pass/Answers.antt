use Prim.Native.Nat.{◌+◌, ◌*◌, ◌-◌, ◌≤◌, ◌<◌}
use native.Mathlib.Omega.{arith}
use mathlib.Core.Path.{◌≡◌, ◌∙◌}
use lib.ListN.{length}
use Rattle.lists.proofs.Laws.{count_start, count-end}
use Rattle.tally.proofs.Laws.{tally_is}
use Rattle.kept_reach.proofs.Along.{count_along}
use borrow.Author.Rules.{rules}
use Rattle.kept_reach.proofs.pass.Goals as goal

pub loop-i-init : goal.loop-i-init
loop-i-init g c = (omega arith, omega arith, count_start _ _ _, count_start _ _ _)

pub overflow_add-count : goal.overflow_add-count
overflow_add-count g c = omega (arith, c.loop-i.invariant.0, c.one_if-count.ensures.1, c.loop-i-test.true, c)

pub overflow_add-met : goal.overflow_add-met
overflow_add-met g c = omega (arith, c.loop-i.invariant.1, c.one_if-met.ensures.1, c.loop-i-test.true, c)

pub loop-i-preserved : goal.loop-i-preserved
loop-i-preserved g c =
    let l = c.loop-i in
    let v = c.row-v.ensures in
    let h : 4 * l.i + 4 ≤ length (g.R.Rows.flat c.args.list.now) = omega (arith, c.len-i-end.ensures, c.loop-i-test.true) in
    let next : 4 * (l.i + 1) ≡ 4 * l.i + 4 = omega arith in
    rw (next, c.moved-state.ensures, v) (
      omega (arith, l.invariant.0, c.one_if-count.ensures.1),
      omega (arith, l.invariant.1, c.one_if-met.ensures.1),
      count_along h (rw v at c.counted.ensures) c.one_if-count.ensures.0 l.invariant.2,
      count_along h (rw v at c.helmert_met.ensures) c.one_if-met.ensures.0 l.invariant.3,
    )

pub returns : goal.returns
returns g c =
    let l = c.loop-i in
    let end : length (g.R.Rows.flat c.args.list.now) - 4 * l.i < 4 = omega (arith, c.len-i-end.ensures, c.loop-i-test.false) in
    tally_is (count-end end l.invariant.2) (count-end end l.invariant.3)
