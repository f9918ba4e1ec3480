-- The word of what `keep` answers, and what it leaves. Assumes nothing.
use mathlib.Core.Path.{◌∙◌}
use Rattle.codes.proofs.Clear.{answered}
use Rattle.reach_entries.proofs.Keeping.{clear_keep_columns}
use Rattle.reach_entries.proofs.sillfeather_keep_columns.Goals as goal

pub returns : goal.returns
returns c =
    let e = c.keep.ensures in
    (c.answer.ensures ∙ answered _ (clear_keep_columns _ _) e.0, e.1)
