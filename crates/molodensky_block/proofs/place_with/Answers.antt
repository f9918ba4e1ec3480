-- Calls are replaced by what they ensure; the definition is left. Assumes nothing.
use Rattle.molodensky_block.proofs.place_with.Goals as goal

pub returns : goal.returns
returns c = rw (c.with.ensures, c.radii_with-radii.ensures, c.w.ensures)
