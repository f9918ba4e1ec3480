-- The directory's offset and its end are tested before the loop, and either alone breaks rule 4.
-- Invariant: `end` is where the body before step i ends (`end_before`), and some of the n steps
-- stands wrongly in the directory if and only if one from i on does (`some_from`, `place_broken`). A
-- turn that finds step i wrong returns true (`some-off`); any other goes on (`some-on`), and
-- `end_at` gives the new end. With no step left none is wrong (`some_end`), and the last end is
-- compared with the total length. Assumes nothing.
use mathlib.Core.Path.{◌≡◌}
use Prim.Native.Nat.{◌-◌, ◌≤◌}
use Rattle.sheet.specs.Rules.{end_before, place_broken, some_from}
use Rattle.sheet.proofs.directory_broken.Given as goal

abbrev pub invariant-loop-i : goal.invariant-loop-i
invariant-loop-i l = (l.i ≤ l.n) × ((l.end ≡ end_before l.s l.i) × (some_from (place_broken l.s) l.n 0 ≡ some_from (place_broken l.s) (l.n - l.i) l.i))
