-- The room becomes the list (`copy`) and then what comes back of it. Assumes nothing.
use mathlib.Core.Path.{◌∙◌}
use Rattle.closure_run.proofs.close.Goals as goal

pub there_and_back-requires : goal.there_and_back-requires
there_and_back-requires c =
    let p = c.requires in
    let same = c.copy.ensures in
    (p.0, rw same p.1, rw same p.2)

pub returns : goal.returns
returns c =
    let back = rw c.copy.ensures at c.there_and_back.ensures in
    (back, c.add.ensures ∙ rw back)
