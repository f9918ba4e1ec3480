-- Each line by what the calls ensure; the node to the east stands 24 bytes on
-- (`next_east`). A cell is at most count - 2, so at most 62. Assumes nothing.
use Rattle.grid.proofs.Laws.{next_east}
use Rattle.grid.specs.Lookup.{looked_up, cell_velocity_of, pair_at}
use Rattle.grid.proofs.looked_up.Goals as goal

pub returns : goal.returns
unfolding looked_up cell_velocity_of pair_at
returns c = rw (c.mixed.ensures, c.pair_at-2.ensures, c.node_offset-2.ensures.0, c.pair_at.ensures, c.node_offset.ensures.0, c.weigh-w.ensures, c.share-2.ensures, c.share.ensures, c.cell-j.ensures.0, c.cell-i.ensures.0, c.spacings-v.ensures, c.spacings-u.ensures, next_east, next_east)
