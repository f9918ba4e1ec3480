-- The kind's length, which is at most Helmert's 248. Assumes nothing.
use mathlib.Core.Path.{◌∙◌, ap}
use Rattle.bodies.specs.Kinds.{length_of}
use Rattle.rescue.proofs.Rebuildable.{length-small}
use Rattle.rescue.proofs.body_length.Goals as goal

pub returns : goal.returns
returns c =
    let same = c.wide.ensures.0 ∙ c.length_of.ensures ∙ ap length_of c.kind_word.ensures in
    (same, rw same (length-small _))
