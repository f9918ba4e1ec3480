-- A refused call hands on the refusal; one that is not tells what the pass over the list tells
-- (`keep-tally`). Assumes nothing.
use mathlib.Core.Path.{sym, ap, ◌∙◌}
use Rattle.std.specs.Prelude.{Ok}
use Rattle.sheet.proofs.Unless.{accepts, refuses, passed, failed, hands_on}
use Rattle.kept_reach.proofs.Along.{keep-tally}
use Rattle.kept_reach.proofs.keep_reach.Goals as goal

pub returns-in_err-keep : goal.returns-in_err-keep
returns-in_err-keep c =
    let e = c.keep.ensures in
    (hands_on _ _ e.0 c.in_err-keep.was c.from_residual.ensures.1 ∙ sym (refuses _ _ (failed _ _ e.0 c.in_err-keep.was)), e.1)

pub returns : goal.returns
returns c =
    let e = c.keep.ensures in
    let none = passed _ _ e.0 c.in_ok-keep.was in
    let told = rw (c.start-start.ensures, c.step_in.ensures.0) at c.pass-tally.ensures in
    (ap Ok (keep-tally _ _ _ none told) ∙ sym (accepts _ _ none), e.1)
