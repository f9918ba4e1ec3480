-- Each row is that of the first half, its sine turned or not. Assumes nothing.
use native.Mathlib.Omega.{arith}
use Prim.Native.Nat.{◌%◌}
use Rattle.trig.specs.Table.{row_of}
use Rattle.trig.proofs.Mirror.{row_is_mirrored}
use Rattle.trig.proofs.look_up.Goals as goal

pub returns : goal.returns
unfolding row_of
returns c =
    rw (c.of_bits-turn.ensures, c.half-w.ensures, c.aside.ensures) (row_is_mirrored (c.args.k % 64) (omega arith))
