use borrow.Author.Rules.{rules}
use native.Mathlib.Omega.{arith}
use Rattle.reach_columns.proofs.Times.{apart-start, apart-again, apart-end}
use Rattle.reach_columns.proofs.running_apart.Goals as goal

pub loop-i-init : goal.loop-i-init
loop-i-init c = ((λ level running rotated exact. apart-start _ _ _ _ _ _ _ level running rotated exact), omega arith, omega arith, omega arith)

pub loop-i-preserved : goal.loop-i-preserved
loop-i-preserved c =
    let a = c.args in
    let p = c.requires in
    let l = c.loop-i in
    let e = c.one_if-equal.ensures in
    let m = c.one_if-n.ensures in
    ((λ level running rotated exact. apart-again a.inverse a.shift a.from a.x.now a.y.now a.z.now a.t.now level running rotated exact l.i (omega (arith, p.0.2, c.loop-i-test.true)) e.0 c.next-state.ensures c.rotation_at_out.ensures m.0 (l.invariant.0 level running rotated exact)), omega (arith, e.1, l.invariant.1), omega (arith, m.1, l.invariant.2), search rules)

pub returns-then-equal-eq0 : goal.returns-then-equal-eq0
returns-then-equal-eq0 c =
    let a = c.args in
    let p = c.requires in
    apart-end a.inverse a.shift a.from a.x.now a.y.now a.z.now a.t.now p.0 p.1 p.2 p.3 c.loop-i.i (search rules) (c.loop-i.invariant.0 p.0 p.1 p.2 p.3) c.if-equal-eq0.true
