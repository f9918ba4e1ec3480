-- By `sixteen-sined`, from what the calls ensure. Assumes nothing.
use Rattle.helmert_exact_columns.proofs.Laws.{sixteen-sined}
use Rattle.helmert_exact_columns.proofs.fill.Goals as goal

pub returns : goal.returns
returns c =
    sixteen-sined c.lapses.ensures c.turned.ensures c.sin_cos_block.ensures c.turned-2.ensures c.sin_cos_block-2.ensures c.turned-3.ensures c.sin_cos_block-3.ensures
