-- Invariant: the first refusal by rules 5 to 8 among the n steps is the first among the steps from
-- i on (`five_to_eight`), so the steps before i are in rule. Where `check_body` finds step i in rule,
-- a turn goes on (`steps_on`); where it finds a refusal, that is the first one (`steps-off`). With
-- no step left nothing is refused (`steps-end`). Assumes nothing.
use mathlib.Core.Path.{◌≡◌}
use Prim.Native.Nat.{◌-◌, ◌≤◌}
use Rattle.sheet.specs.Rules.{refusal5_at, five_to_eight, first_broken}
use Rattle.sheet.specs.Layout.{step_at}
use Rattle.sheet.proofs.check_bodies.Given as goal

abbrev pub invariant-loop-i : goal.invariant-loop-i
invariant-loop-i l = (l.i ≤ l.n) × (first_broken (five_to_eight (refusal5_at l.s) (step_at l.s) l.n 0) ≡ first_broken (five_to_eight (refusal5_at l.s) (step_at l.s) (l.n - l.i) l.i))
