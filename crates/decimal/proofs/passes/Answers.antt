-- A number below 2^52 is counted by binary64 without a gap. Assumes nothing.
use native.Mathlib.Omega.{arith}
use mathlib.Core.Path.{sym}
use Prim.Native.Nat.{◌^◌}
use lib.Dec.{le→leb}
use lib.Ieee.{in_float}
use Rattle.decimal.specs.Places.{digits_of, read_of, passes_of}
use Rattle.decimal.proofs.passes.Goals as goal

pub int_to_float-whole : goal.int_to_float-whole
unfolding in_float
int_to_float-whole c = le→leb c.whole.result (2 ^ 53) (omega arith)

pub returns-then-p : goal.returns-then-p
unfolding passes_of read_of digits_of
returns-then-p c = rw (sym c.requires, c.if-p.true, c.same.ensures, c.whole.ensures.0)

pub returns : goal.returns
unfolding passes_of
returns c = rw (sym c.requires, c.if-p.false)
