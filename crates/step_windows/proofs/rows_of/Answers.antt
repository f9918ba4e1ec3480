-- The smaller of both. Assumes nothing.
use native.Mathlib.Omega.{arith}
use Rattle.std.proofs.Math.Nat.{min-le_left, min-le_right, le-min}
use Rattle.step_windows.proofs.rows_of.Goals as goal

pub returns : goal.returns
returns c = (omega (arith, c.min.ensures, min-le_left c.args.left 128), omega (arith, c.min.ensures, min-le_right c.args.left 128), λ h. omega (arith, c.min.ensures, le-min {k = 1} {a = c.args.left} {b = 128} (omega (arith, h)) (omega arith)), c.min.ensures)
