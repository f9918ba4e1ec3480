-- Each line by what the calls ensure; the node to the east stands 24 bytes on (`next_east`), the row
-- to the north no less far (`next_row`). A cell is at most count - 2, so at most 62. Assumes nothing.
use Rattle.grid.proofs.Laws.{next_east, next_row}
use Rattle.grid.specs.Lookup.{cell_velocity_of, pair_at, four_at}
use Rattle.grid.proofs.velocity_at.Goals as goal

pub four_at-nodes-requires : goal.four_at-nodes-requires
four_at-nodes-requires c = (rw (c.node_offset-2.ensures.0, c.node_offset.ensures.0) (next_row _ _ _), c.node_offset-2.ensures.1)

pub returns : goal.returns
unfolding cell_velocity_of pair_at four_at
returns c = rw (c.mixed.ensures, c.four_at-nodes.ensures, c.node_offset-2.ensures.0, c.node_offset.ensures.0, c.weigh-w.ensures, c.share-2.ensures, c.share.ensures, c.cell-j.ensures.0, c.cell-i.ensures.0, next_east, next_east)
