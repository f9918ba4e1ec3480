-- By `at_most_is_a_number`, `at_least_is_a_number` and `sized_point`, from what the calls ensure.
-- Assumes nothing.
use borrow.Author.Rules.{rules}
use mathlib.Core.Path.{sym, subst, ◌∙◌, refl}
use mathlib.Core.Bool.{not}
use lib.Dec.{T}
use lib.Ieee.{Float, binary64, is_nan}
use lib.Ieee.Bits.{to_bits-lt}
use Rattle.arctan_block.specs.Block.{held_larger, held_smaller, octant_of}
use Rattle.arctan_block.proofs.Blocks.{at_most_is_a_number, at_least_is_a_number, wrapped, wrapped-lt, sized_point}
use Rattle.arctan_block.proofs.sized.Goals as goal

pub float_to_bits-quarters : goal.float_to_bits-quarters
float_to_bits-quarters c = subst (λ (v : Float). T (not (is_nan v))) (sym c.at_most-larger.ensures) (at_most_is_a_number c.choose.result)

pub float_to_bits-quarters-2 : goal.float_to_bits-quarters-2
float_to_bits-quarters-2 c = subst (λ (v : Float). T (not (is_nan v))) (sym c.at_least-smaller.ensures) (at_least_is_a_number c.choose-2.result)

pub returns : goal.returns
unfolding held_larger held_smaller octant_of
returns c =
    let y = c.args.y in
    let x = c.args.x in
    sized_point y x _ _ (search rules) (search rules) (wrapped-lt _ _)
    (rw (c.at_most-larger.ensures, c.choose.ensures, c.abs-b.ensures, c.abs-a.ensures))
    (rw (c.at_least-smaller.ensures, c.choose-2.ensures, c.abs-b.ensures, c.abs-a.ensures))
    (wrapped _ _ (to_bits-lt binary64 _ (search rules)) (to_bits-lt binary64 _ (search rules)))
    refl
    (rw (c.octant_index-octant.ensures, c.abs-b.ensures, c.abs-a.ensures))
    (c.odd_if-odd.ensures ∙ rw c.is_moderate.ensures)
