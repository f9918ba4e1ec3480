-- The length, the step count and the directory's end are tested before the loop, and each alone
-- breaks rule 19. Invariant: `end` is where body i starts (`start_of`), and some of the n entries
-- breaks the rule if and only if one from i on does (`some_from`, `entry_broken`). A turn that finds
-- entry i wrong returns true (`some-off`); any other goes on (`some-on`), and `end` moves past the
-- body (`start-next`). With no entry left none is wrong (`some_end`), and the last end is compared
-- with the length. Assumes nothing.
use mathlib.Core.Path.{◌≡◌}
use Prim.Native.Nat.{◌+◌, ◌*◌, ◌-◌, ◌≤◌}
use Rattle.sheet.specs.Rules.{some_from}
use Rattle.rescue.specs.Rebuilt.{start_of}
use Rattle.rescue.specs.Rules.{entry_broken}
use Rattle.rescue.proofs.is_lost.Given as goal

abbrev pub invariant-loop-i : goal.invariant-loop-i
invariant-loop-i l = (l.i ≤ l.n) × ((l.n ≤ 16) × ((l.end ≤ 16 + 16 * l.n + 248 * l.i) × ((l.end ≡ start_of l.s l.i) × (some_from (entry_broken l.s) l.n 0 ≡ some_from (entry_broken l.s) (l.n - l.i) l.i))))
