-- Invariant: the first offence among the n steps is the first among the steps from i on
-- (`twenty_fives`), so the steps before i are let through. A turn at a step that offends returns its
-- refusal (`offence-off`); any other goes on (`offence-on`). With no step left nothing is refused
-- (`offence-end`). Assumes nothing.
use mathlib.Core.Path.{◌≡◌}
use Prim.Native.Nat.{◌-◌, ◌≤◌}
use Rattle.sheet.specs.Layout.{step_at}
use Rattle.sheet.specs.Rules.{first_broken}
use Rattle.profile.specs.Profile.{twenty_fives}
use Rattle.profile.proofs.first_offence.Given as goal

abbrev pub invariant-loop-i : goal.invariant-loop-i
invariant-loop-i l = (l.i ≤ l.n) × (first_broken (twenty_fives (step_at l.s) l.n 0) ≡ first_broken (twenty_fives (step_at l.s) (l.n - l.i) l.i))
