-- One case for each way through the tests. Each by `geographic_time`, from what the calls ensure.
-- Assumes nothing.
use borrow.Author.Tests.{eq-eqb, ne_eqb}
use Rattle.geocart.proofs.Laws.{geographic_time}
use Rattle.deformation.specs.Step.{correction_of, deformed_of, deformed_at_of, common_of}
use Rattle.deformation.proofs.common.Goals as goal

pub returns-then-mark-eq1 : goal.returns-then-mark-eq1
unfolding correction_of deformed_of deformed_at_of common_of
returns-then-mark-eq1 c =
    rw (
      c.deformed.ensures,
      c.place-place.ensures,
      geographic_time _ _,
      eq-eqb _ 1 c.if-mark-eq1.true,
    )

pub returns : goal.returns
unfolding deformed_at_of common_of
returns c = rw (c.nan.ensures, ne_eqb _ 1 c.if-mark-eq1.false)
