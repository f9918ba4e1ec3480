-- Where all sixteen rows stand there, they are put (`store_there`); else the flat list ends before
-- them (`no_block`), and nothing can be put there (`put-no-rows`). Assumes nothing.
use mathlib.Core.Path.{sym, ◌∙◌}
use Rattle.lists.proofs.Sixteen.{put-no-rows}
use Rattle.column_blocks.proofs.Blocks.{block_told, no_block}
use Rattle.column_blocks.proofs.store_block.Goals as goal

pub store_there-requires : goal.store_there-requires
store_there-requires c = block_told _ _ _ _ _ (sym c.has_block.ensures ∙ c.if-has_block.true)

pub returns-then-has_block : goal.returns-then-has_block
returns-then-has_block c = c.store_there.ensures

pub returns-else-has_block : goal.returns-else-has_block
returns-else-has_block c = sym (put-no-rows _ _ _ _ _ _ (no_block _ _ _ _ _ (sym c.has_block.ensures ∙ c.if-has_block.false)))
