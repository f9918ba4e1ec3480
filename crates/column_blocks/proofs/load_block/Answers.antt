-- Where all sixteen rows stand there, they are loaded (`load_there`); else the flat list ends
-- before them (`no_block`), and a row of them is four NaNs (`none-there-block`). Assumes nothing.
use mathlib.Core.Path.{refl, sym, ◌∙◌}
use Rattle.floats.proofs.Nan.{zero_over_zero}
use Rattle.tuple.specs.declared.Tuple.{Tuple}
use Rattle.lists.proofs.Sixteen.{none-there-block}
use Rattle.column_blocks.proofs.Blocks.{block_told, no_block}
use Rattle.column_blocks.proofs.load_block.Goals as goal

pub load_there-requires : goal.load_there-requires
load_there-requires c = block_told _ _ _ _ _ (sym c.has_block.ensures ∙ c.if-has_block.true)

pub returns-then-has_block : goal.returns-then-has_block
returns-then-has_block c = c.load_there.ensures

pub returns-else-has_block : goal.returns-else-has_block
returns-else-has_block c =
    let short = no_block _ _ _ _ _ (sym c.has_block.ensures ∙ c.if-has_block.false) in
    (none-there-block _ _ zero_over_zero short (λ (v : Tuple). v.x) refl, none-there-block _ _ zero_over_zero short (λ (v : Tuple). v.y) refl, none-there-block _ _ zero_over_zero short (λ (v : Tuple). v.z) refl, none-there-block _ _ zero_over_zero short (λ (v : Tuple). v.t) refl)
