-- By `redo_flat`, from what the windows leave. Assumes nothing.
use mathlib.Core.Path.{refl}
use Rattle.stretch_flat.proofs.Again.{redo_flat}
use Rattle.stretch_flat.proofs.redo.Goals as goal

pub returns : goal.returns
returns c =
    let a = c.args in
    redo_flat a.shift a.inverse a.from a.list.now a.results.now a.track.now a.index c.shift_list.new.results c.retrack_list-n.new.track
    c.retrack_list-n.ensures c.shift_list.ensures refl refl c.requires.0 c.requires.3 c.requires.1
