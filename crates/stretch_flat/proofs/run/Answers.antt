-- By `fresh_is`, from what the calls ensure. Assumes nothing.
use mathlib.Core.Path.{refl}
use Rattle.stretch.proofs.Made.{fresh_is}
use Rattle.stretch.proofs.Fits.{as_long}
use Rattle.stretch_flat.proofs.run.Goals as goal

pub returns : goal.returns
returns c =
    let start = c.start-start.ensures in
    let tracked = rw (as_long _ _ c.requires.0 c.requires.2) at c.track_list.ensures in
    fresh_is _ _ _ c.requires.0 refl (rw start at c.shift_list.ensures) (rw start at tracked)
