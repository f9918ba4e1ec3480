-- The code tests first what is usual. Assumes nothing.
use mathlib.Core.Path.{refl, sym, ◌∙◌}
use Rattle.hypot.specs.Hypot.{squares_of}
use Rattle.hypot.proofs.Squares.{one_over_zero, equals_infinity, infinite-first, infinite-second, scaled-pair}
use Rattle.hypot.proofs.hypot.Goals as goal
use Rattle.hypot.proofs.hypot.Goals.{then-p-infinity-via-then-p-infinity, then-p-infinity-via-else-p-infinity+then-q-infinity}

pub ordinary_length-requires : goal.ordinary_length-requires
unfolding squares_of
ordinary_length-requires c = (refl, sym c.is_ordinary.ensures ∙ c.if-is_ordinary.true)

pub returns-then-is_ordinary : goal.returns-then-is_ordinary
returns-then-is_ordinary c = c.ordinary_length.ensures

pub returns-then-p-infinity : goal.returns-then-p-infinity
returns-then-p-infinity c =
    let a = c.args in
    elim c.then-p-infinity.branch [
      | then-p-infinity-via-then-p-infinity w ↦
          rw one_over_zero (infinite-first a.x a.y (sym (equals_infinity a.x) ∙ rw (one_over_zero, c.abs-p.ensures) at w.if-p-infinity.true))
      | then-p-infinity-via-else-p-infinity+then-q-infinity w ↦
          rw one_over_zero
          (infinite-second a.x a.y
          (sym (equals_infinity a.x) ∙ rw (one_over_zero, c.abs-p.ensures) at w.if-p-infinity.false)
          (sym (equals_infinity a.y) ∙ rw (one_over_zero, c.abs-q.ensures) at w.if-q-infinity.true))
    ]

pub returns : goal.returns
returns c =
    let a = c.args in
    rw (c.bounded.ensures, c.rescaled.ensures, c.smaller_of-b.ensures, c.larger_of-a.ensures, c.abs-q.ensures, c.abs-p.ensures)
    (scaled-pair a.x a.y
    (sym c.is_ordinary.ensures ∙ c.if-is_ordinary.false)
    (sym (equals_infinity a.x) ∙ rw (one_over_zero, c.abs-p.ensures) at c.if-p-infinity.false)
    (sym (equals_infinity a.y) ∙ rw (one_over_zero, c.abs-q.ensures) at c.if-q-infinity.false))
