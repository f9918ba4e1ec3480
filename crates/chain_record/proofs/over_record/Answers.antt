use borrow.Author.Rules.{rules}
use native.Mathlib.Omega.{arith}
use Prim.Native.Nat.{◌+◌, ◌-◌}
use mathlib.Core.Path.{◌≡◌, refl}
use Rattle.chain.proofs.Laws.{forward_start, forward-again, forward-end, backward_start, backward-again, backward-end}
use Rattle.chain_record.proofs.over_record.Goals as goal

-- ---- inverse

pub loop-i-init : goal.loop-i-init
loop-i-init c = rw c.none-tallies.ensures (backward_start _ _ _ _ c.requires)

pub loop-i-preserved : goal.loop-i-preserved
loop-i-preserved c =
    let l = c.loop-i in
    let j : l.i - 1 + 1 ≡ l.i = omega (arith, c.loop-i-test.true) in
    backward-again c.requires (l.i - 1) j refl c.run_step-tally.ensures.0 c.run_step-tally.ensures.1 l.invariant

pub returns-after-loop-i : goal.returns-after-loop-i
returns-after-loop-i c = rw c.if-inverse.true (backward-end c.requires (search rules) c.loop-i.invariant)

-- ---- forward

pub loop-i-else-inverse-init : goal.loop-i-else-inverse-init
loop-i-else-inverse-init c = rw c.none-tallies.ensures (forward_start _ _ _ _ c.requires)

pub loop-i-else-inverse-preserved : goal.loop-i-else-inverse-preserved
loop-i-else-inverse-preserved c =
    forward-again c.requires (search rules) refl c.run_step-tally-in-loop-i-else-inverse.ensures.0 c.run_step-tally-in-loop-i-else-inverse.ensures.1 c.loop-i-else-inverse.invariant

pub returns-after-loop-i-else-inverse : goal.returns-after-loop-i-else-inverse
returns-after-loop-i-else-inverse c = rw c.if-inverse.false (forward-end c.requires (search rules) c.loop-i-else-inverse.invariant)
