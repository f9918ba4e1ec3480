-- One case each, as deformation's own `common`: by `geographic_time`, from what the calls ensure.
-- Assumes nothing.
use borrow.Author.Tests.{eq-eqb, ne_eqb}
use mathlib.Core.Path.{refl}
use Rattle.geocart.proofs.Laws.{geographic_time}
use Rattle.deformation.specs.Step.{correction_of, deformed_of, deformed_at_of, common_of}
use Rattle.reach.proofs.moved.Goals as goal

pub returns-then-mark-eq1 : goal.returns-then-mark-eq1
unfolding correction_of deformed_of deformed_at_of common_of
returns-then-mark-eq1 c =
    rw (
      c.place_out.ensures,
      c.deformed.ensures,
      c.place-place.ensures,
      geographic_time _ _,
      eq-eqb _ 1 c.if-mark-eq1.true,
    ) (refl, refl, refl)

pub returns : goal.returns
unfolding deformed_at_of common_of
returns c = rw (c.nan.ensures, ne_eqb _ 1 c.if-mark-eq1.false) (refl, refl, refl)
