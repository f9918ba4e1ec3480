-- Magnitudes that are moderate have no NaN, zero or infinity among them, so that the code may take
-- them first. Assumes nothing.
use mathlib.Core.Path.{sym, ◌∙◌}
use Rattle.arctan.proofs.Parts.{usual-point, nan-first, nan-second, below-the-axis, above-the-axis}
use Rattle.arctan.proofs.atan2.Goals as goal

pub returns-then-y : goal.returns-then-y
returns-then-y c =
    let x = c.args.x in
    let y = c.args.y in
    rw (c.within-r.ensures, c.quotient_angle.ensures, c.octant_at.ensures, c.octant_index-k.ensures, c.choose-small.ensures, c.choose-large.ensures, c.abs-b.ensures, c.abs-a.ensures)
    (rw c.if-y.true at
    (usual-point y x
    ((rw (c.choose-small.ensures, c.choose-large.ensures, c.abs-b.ensures, c.abs-a.ensures) at (sym c.is_moderate.ensures)) ∙ c.if-is_moderate.true)))

pub returns-else-y : goal.returns-else-y
returns-else-y c =
    let x = c.args.x in
    let y = c.args.y in
    rw (c.within-r.ensures, c.quotient_angle.ensures, c.octant_at.ensures, c.octant_index-k.ensures, c.choose-small.ensures, c.choose-large.ensures, c.abs-b.ensures, c.abs-a.ensures)
    (rw c.if-y.false at
    (usual-point y x
    ((rw (c.choose-small.ensures, c.choose-large.ensures, c.abs-b.ensures, c.abs-a.ensures) at (sym c.is_moderate.ensures)) ∙ c.if-is_moderate.true)))

pub returns-then-is_nan : goal.returns-then-is_nan
returns-then-is_nan c = nan-first c.args.y c.args.x (sym c.is_nan.ensures ∙ c.if-is_nan.true)

pub returns-then-is_nan-2 : goal.returns-then-is_nan-2
returns-then-is_nan-2 c =
    nan-second c.args.y c.args.x
    (sym c.is_nan.ensures ∙ c.if-is_nan.false)
    (sym c.is_nan-2.ensures ∙ c.if-is_nan-2.true)

pub returns-then-negative : goal.returns-then-negative
returns-then-negative c =
    rw (c.angle-r.ensures, c.abs-b.ensures)
    (below-the-axis c.args.y c.args.x
    (sym c.is_nan.ensures ∙ c.if-is_nan.false)
    (sym c.is_nan-2.ensures ∙ c.if-is_nan-2.false)
    (sym c.negative.ensures ∙ c.if-negative.true))

pub returns-else-negative : goal.returns-else-negative
returns-else-negative c =
    rw (c.angle-r.ensures, c.abs-b.ensures)
    (above-the-axis c.args.y c.args.x
    (sym c.is_nan.ensures ∙ c.if-is_nan.false)
    (sym c.is_nan-2.ensures ∙ c.if-is_nan-2.false)
    (sym c.negative.ensures ∙ c.if-negative.false))
