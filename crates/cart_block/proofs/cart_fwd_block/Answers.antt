-- By `count_told` and `counted_forward`, from what the calls ensure. Assumes nothing.
use mathlib.Core.Path.{◌∙◌}
use Rattle.blocks.proofs.Counts.{count_told}
use Rattle.cart_block.proofs.Parts.{counted_forward}
use Rattle.cart_block.proofs.cart_fwd_block.Goals as goal

pub returns : goal.returns
returns c =
    let all = c.cartesian_block.ensures in (
      all.0,
      all.1,
      all.2,
      c.count_block.ensures ∙ count_told 16 _ _ (λ j k. counted_forward _ _ (all.0.held j k) (all.1.held j k) (all.2.held j k)),
    )
