-- The larger of the count and 1 is the count, and 1 where that is 0. Assumes nothing.
use Rattle.std.specs.Prelude.{max}
use Prim.Native.Nat.{ℕ}
use native.Mathlib.Omega.{arith}
use mathlib.Core.Bool.{Bool, true, false, cond}
use mathlib.Core.Path.{◌≡◌, refl, ◌∙◌}
use lib.Dec.{eqb}
use borrow.Author.Tests.{eqb-true, eqb-false}
use Rattle.grid_lines.specs.Lines.{across_of}
use Rattle.grid_lines.proofs.across.Goals as goal

one_at_least : (n : ℕ) → max n 1 ≡ cond (eqb n 0) 1 n
one_at_least n = by (eqb n 0) refl
  where
    by : (b : Bool) → eqb n 0 ≡ b → max n 1 ≡ cond b 1 n
    by true e = omega (arith, eqb-true n 0 e)
    by false e = omega (arith, eqb-false n 0 e)

pub returns : goal.returns
unfolding across_of
returns c = (rw (c.max.ensures, c.column_count.ensures) (one_at_least _), omega (arith, c.max.ensures))
