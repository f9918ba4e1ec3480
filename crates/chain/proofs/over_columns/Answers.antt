use Prim.Native.Nat.{◌-◌}
use native.Mathlib.Omega.{arith}
use mathlib.Core.Path.{refl}
use Rattle.chain.proofs.Laws.{forward_start, forward-again, forward-end, backward_start, backward-again, backward-end}
use borrow.Author.Rules.{rules}
use Rattle.chain.proofs.over_columns.Goals as goal

-- ---- inverse

pub loop-i-init : goal.loop-i-init
loop-i-init c = let p = c.requires in rw c.none-tallies.ensures (p.2, refl, backward_start _ _ _ _ p.0)

pub step_at-tally-requires : goal.step_at-tally-requires
step_at-tally-requires c = let l = c.loop-i in let p = c.requires in (omega (arith, p.1, c.loop-i-test.true, l.invariant.2.within), l.invariant.0, omega (arith, l.invariant.1, p.3))

pub loop-i-preserved : goal.loop-i-preserved
loop-i-preserved c =
    let l = c.loop-i in
    let p = c.requires in
    let e = c.step_at-tally.ensures in
    ((search rules, search rules, search rules), search rules, backward-again p.0 (l.i - 1) (omega (arith, c.loop-i-test.true)) refl e.0 e.1 l.invariant.2)

pub returns-after-loop-i : goal.returns-after-loop-i
returns-after-loop-i c = rw c.if-inverse.true (backward-end c.requires.0 (search rules) c.loop-i.invariant.2)

-- ---- forward

pub loop-i-else-inverse-init : goal.loop-i-else-inverse-init
loop-i-else-inverse-init c = let p = c.requires in rw c.none-tallies.ensures (p.2, refl, forward_start _ _ _ _ p.0)

pub step_at-tally-requires-in-loop-i-else-inverse : goal.step_at-tally-requires-in-loop-i-else-inverse
step_at-tally-requires-in-loop-i-else-inverse c = let l = c.loop-i-else-inverse in let p = c.requires in (omega (arith, p.1, c.loop-i-else-inverse-test.true), l.invariant.0, omega (arith, l.invariant.1, p.3))

pub loop-i-else-inverse-preserved : goal.loop-i-else-inverse-preserved
loop-i-else-inverse-preserved c =
    let l = c.loop-i-else-inverse in
    let p = c.requires in
    let e = c.step_at-tally-in-loop-i-else-inverse.ensures in
    ((search rules, search rules, search rules), search rules, forward-again p.0 c.loop-i-else-inverse-test.true refl e.0 e.1 l.invariant.2)

pub returns-after-loop-i-else-inverse : goal.returns-after-loop-i-else-inverse
returns-after-loop-i-else-inverse c = rw c.if-inverse.false (forward-end c.requires.0 (search rules) c.loop-i-else-inverse.invariant.2)
