-- Calls are replaced by what they ensure; the definition is left. A number has at most 20 digits, so
-- that the highest is worth no more than 10^19 (`worth_more`). Assumes nothing.
use Prim.Native.Nat.{◌-◌}
use native.Mathlib.Omega.{arith}
use borrow.Author.Rules.{rules}
use Rattle.text.specs.Digits.{decimal_of}
use Rattle.text.proofs.Powers.{worth_more}
use Rattle.text.proofs.put_decimal.Goals as goal

pub put_digits-requires : goal.put_digits-requires
put_digits-requires c =
    let w = worth_more 10 (c.places.result - 1) 19 (search rules) (omega (arith, c.places.ensures.1)) in
    (search rules, search rules, omega (arith, w))

pub returns : goal.returns
unfolding decimal_of
returns c = rw (← c.places.ensures.0) c.put_digits.ensures
