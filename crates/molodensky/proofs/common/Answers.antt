-- One case for each way through the tests. Each by `zero_over_zero`, from what the calls ensure.
-- Assumes nothing.
use mathlib.Core.Path.{sym, ap, ◌∙◌}
use mathlib.Core.Bool.{true, false}
use Rattle.floats.proofs.Nan.{zero_over_zero}
use Rattle.molodensky.specs.Step.{offset_by_of}
use Rattle.molodensky.proofs.common.Goals as goal

pub returns-in_default : goal.returns-in_default
returns-in_default c =
    rw zero_over_zero
    (ap (offset_by_of c.args.inverse c.args.coord)
    (sym c.in_default.is ∙ c.calc_molodensky_params.ensures))

pub returns-then-inverse : goal.returns-then-inverse
returns-then-inverse c =
    rw c.if-inverse.true
    (ap (offset_by_of true c.args.coord) (sym c.in-Some.is ∙ c.calc_molodensky_params.ensures))

pub returns : goal.returns
returns c =
    rw c.if-inverse.false
    (ap (offset_by_of false c.args.coord) (sym c.in-Some.is ∙ c.calc_molodensky_params.ensures))
