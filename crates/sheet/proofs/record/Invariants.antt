-- Invariant: the first i elements of `entries` are read from the sheet, and the others are blank
-- (`filled`). A turn reads one more by the contract of `entry_at` (`filled_next`). At i = n they
-- are the record's sixteen, because `entry_at` is blank past the step count too (`filled_all`). Assumes nothing.
use mathlib.Core.Path.{◌≡◌}
use Prim.Native.Nat.{◌≤◌}
use Rattle.sheet.proofs.Entries.{filled}
use Rattle.sheet.proofs.record.Given as goal

abbrev pub invariant-loop-i : goal.invariant-loop-i
invariant-loop-i l = (l.i ≤ l.n) × (l.entries ≡ filled l.s l.i)
