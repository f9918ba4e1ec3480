-- Invariant: some of the n inverted words is out of rule if and only if one from i on is
-- (`some_from`, `inverted_broken_in`), so those before i are in rule. A turn that finds one above 1
-- returns true (`some-off`); any other goes on (`some-on`). With no step left none is out of rule
-- (`some_end`). Assumes nothing.
use mathlib.Core.Path.{◌≡◌}
use Prim.Native.Nat.{◌-◌, ◌≤◌}
use Rattle.sheet_writer.specs.Rules.{inverted_broken_in}
use Rattle.sheet.specs.Rules.{some_from}
use Rattle.sheet_writer.proofs.inverted_broken.Given as goal

abbrev pub invariant-loop-i : goal.invariant-loop-i
invariant-loop-i l = (l.i ≤ l.n) × (some_from (inverted_broken_in l.sheet) l.n 0 ≡ some_from (inverted_broken_in l.sheet) (l.n - l.i) l.i)
