-- The room becomes the list (`copy`) and then what comes back of it. Assumes nothing.
use mathlib.Core.Path.{◌∙◌}
use Rattle.closure_run.proofs.grid_close.Goals as goal

pub grid_there_and_back-requires : goal.grid_there_and_back-requires
grid_there_and_back-requires c =
    let p = c.requires in
    let same = c.copy.ensures in
    (p.0, rw same p.1, p.2, p.3)

pub returns : goal.returns
returns c =
    let back = rw c.copy.ensures at c.grid_there_and_back.ensures in
    (back, c.add.ensures ∙ rw back)
