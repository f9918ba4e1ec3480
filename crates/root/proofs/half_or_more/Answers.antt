-- What was compared and found more is no NaN. Assumes nothing.
use Rattle.std.proofs.Common.{not, T, sym, subst}
use lib.Ieee.{Float, binary64, of_bits, is_nan}
use borrow.Author.Rules.{const_no_nan}
use Rattle.root.proofs.Patterns.{lt_no_nan}
use Rattle.root.proofs.half_or_more.Goals as goal
use Rattle.root.proofs.half_or_more.Goals.{then-s, else-s}

pub float_to_bits-result : goal.float_to_bits-result
float_to_bits-result c =
    elim c.if-s.branch [
      | then-s w ↦ subst (λ (y : Float). T (not (is_nan y))) (sym w.z-is) (lt_no_nan (of_bits binary64 4602678819172646912) c.args.s (subst T (sym w.if-s.true) tt))
      | else-s w ↦ subst (λ (y : Float). T (not (is_nan y))) (sym w.z-is) (const_no_nan binary64 4602678819172646912 tt)
    ]
