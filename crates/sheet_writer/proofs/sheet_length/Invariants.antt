-- Invariant: `end` is where body i starts (`body_start`), at most 248 bytes a body past the
-- directory. A turn adds the length of body i (`start-next`), which is at most 248. At i = n `end`
-- is where the last body ends, which is the sheet's length, and with sixteen steps at most 4,240.
-- Assumes nothing.
use mathlib.Core.Path.{◌≡◌}
use Prim.Native.Nat.{◌+◌, ◌*◌, ◌≤◌}
use Rattle.sheet_writer.specs.Bytes.{body_start}
use Rattle.sheet_writer.proofs.sheet_length.Given as goal

abbrev pub invariant-loop-i : goal.invariant-loop-i
invariant-loop-i l = (l.i ≤ l.n) × ((l.end ≡ body_start l.sheet l.i) × (l.end ≤ 16 + 16 * l.n + 248 * l.i))
