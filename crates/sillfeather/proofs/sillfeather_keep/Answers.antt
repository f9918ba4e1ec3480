-- The word of what `keep` answers, and what it leaves. Assumes nothing.
use mathlib.Core.Path.{◌∙◌}
use Rattle.codes.proofs.Clear.{answered}
use Rattle.sillfeather.proofs.Keeping.{clear_keep}
use Rattle.sillfeather.proofs.sillfeather_keep.Goals as goal

pub returns : goal.returns
returns c =
    let e = c.keep.ensures in
    (c.answer.ensures ∙ answered _ (clear_keep _ _) e.0, e.1)
