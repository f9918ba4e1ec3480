-- Calls are replaced by what they ensure; the definition is left. Assumes nothing.
use Rattle.arctan.specs.Arctan.{cell_index_of}
use Rattle.arctan.proofs.cell_index.Goals as goal

pub returns : goal.returns
unfolding cell_index_of
returns c = rw (← c.to_bits.ensures, ← c.to_bits-2.ensures, ← c.saturating_sub-excess.ensures) c.min.ensures
