-- One case for each way through the tests. Each by `geographic_time`, from what the calls ensure.
-- Assumes nothing.
use borrow.Author.Tests.{eq-eqb, ne_eqb}
use Rattle.geocart.proofs.Laws.{geographic_time}
use Rattle.deformation.specs.Step.{correction_of, deformed_of, deformed_at_of, common_of}
use Rattle.deformation_grid.specs.Gridded.{gridded_in}
use Rattle.deformation_grid.proofs.common.Goals as goal

pub returns-then-found-eq1 : goal.returns-then-found-eq1
unfolding gridded_in correction_of deformed_of deformed_at_of common_of
returns-then-found-eq1 c =
    let found = c.found_in-found.ensures in
    let place = c.place-place.ensures in
    let present = rw (found, place) at c.if-found-eq1.true in
    rw (c.deformed.ensures, found, place, geographic_time _ _, eq-eqb _ 1 present)

pub returns : goal.returns
unfolding gridded_in deformed_at_of common_of
returns c =
    let found = c.found_in-found.ensures in
    let place = c.place-place.ensures in
    let absent = rw (found, place) at c.if-found-eq1.false in
    rw (c.nan.ensures, ne_eqb _ 1 absent)
