-- A job that is not bad is as long as its words say, by `good_job`. Assumes nothing.
use mathlib.Core.Path.{sym, ◌∙◌}
use native.Mathlib.Omega.{arith}
use Rattle.text.proofs.Laws.{place_within}
use Rattle.answer.proofs.Laws.{good_job}
use Rattle.display.proofs.display.Goals as goal

pub returns-then-is_bad : goal.returns-then-is_bad
returns-then-is_bad c = place_within _ _ c.refused.ensures

pub draw-requires : goal.draw-requires
draw-requires c =
    let g = good_job _ _ (sym c.is_bad.ensures ∙ c.if-is_bad.false) in
    (omega arith, g.velocities, omega arith)
