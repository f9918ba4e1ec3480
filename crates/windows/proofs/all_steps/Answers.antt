use Prim.Native.Nat.{◌-◌}
use native.Mathlib.Omega.{arith}
use mathlib.Core.Path.{refl}
use Rattle.windows.proofs.Steps.{absent_standing, forward_start, forward-few, forward-again, forward-end, backward_start, backward-few, backward-again, backward-end}
use borrow.Author.Rules.{rules}
use Rattle.windows.proofs.all_steps.Goals as goal

-- ---- inverse

pub loop-i-init : goal.loop-i-init
loop-i-init c = let p = c.requires in (p.1, refl, backward_start _ _ _ _ _ (search rules))

pub moved_on-requires : goal.moved_on-requires
moved_on-requires c =
    let l = c.loop-i in
    let p = c.requires in
    (l.invariant.0, omega (arith, l.invariant.1, p.2), backward-few p.0 absent_standing (l.i - 1) (omega (arith, c.loop-i-test.true)) p.3 l.invariant.2)

pub loop-i-preserved : goal.loop-i-preserved
loop-i-preserved c =
    let l = c.loop-i in
    let p = c.requires in
    let e = c.moved_on.ensures in
    ((search rules, search rules, search rules), search rules, backward-again p.0 absent_standing (l.i - 1) (omega (arith, c.loop-i-test.true)) refl e.0 e.1 l.invariant.2)

pub returns-after-loop-i : goal.returns-after-loop-i
returns-after-loop-i c = rw c.if-inverse.true (backward-end c.requires.0 (search rules) c.loop-i.invariant.2)

-- ---- forward

pub loop-i-else-inverse-init : goal.loop-i-else-inverse-init
loop-i-else-inverse-init c = let p = c.requires in (p.1, refl, forward_start _ _ _ _ _ (search rules))

pub moved_on-next-requires : goal.moved_on-next-requires
moved_on-next-requires c =
    let l = c.loop-i-else-inverse in
    let p = c.requires in
    (l.invariant.0, omega (arith, l.invariant.1, p.2), forward-few p.0 absent_standing c.loop-i-else-inverse-test.true p.3 l.invariant.2)

pub loop-i-else-inverse-preserved : goal.loop-i-else-inverse-preserved
loop-i-else-inverse-preserved c =
    let l = c.loop-i-else-inverse in
    let p = c.requires in
    let e = c.moved_on-next.ensures in
    ((search rules, search rules, search rules), search rules, forward-again p.0 absent_standing c.loop-i-else-inverse-test.true refl e.0 e.1 l.invariant.2)

pub returns-after-loop-i-else-inverse : goal.returns-after-loop-i-else-inverse
returns-after-loop-i-else-inverse c = rw c.if-inverse.false (forward-end c.requires.0 (search rules) c.loop-i-else-inverse.invariant.2)
