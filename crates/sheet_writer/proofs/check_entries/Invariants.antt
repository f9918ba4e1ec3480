-- Invariant: the first refusal by rules 5 to 8 among the record's n steps is the first among the
-- steps from i on (`five_to_eight`), so the steps before i are in rule. Where `check_entry` finds
-- step i in rule, a turn goes on (`steps_on`); where it finds a refusal, that is the first one
-- (`steps-off`). With no step left nothing is refused (`steps-end`). Assumes nothing.
use mathlib.Core.Path.{◌≡◌}
use Prim.Native.Nat.{◌-◌, ◌≤◌}
use Rattle.sheet_writer.specs.Rules.{record_refusal5}
use Rattle.sheet.specs.Rules.{five_to_eight, first_broken}
use Rattle.sheet.specs.Layout.{step_in}
use Rattle.sheet_writer.proofs.check_entries.Given as goal

abbrev pub invariant-loop-i : goal.invariant-loop-i
invariant-loop-i l = (l.i ≤ l.n) × (first_broken (five_to_eight (record_refusal5 l.sheet) (step_in l.sheet) l.n 0) ≡ first_broken (five_to_eight (record_refusal5 l.sheet) (step_in l.sheet) (l.n - l.i) l.i))
