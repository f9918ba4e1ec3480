-- One case each: a fix that is present is asked by its place, an absent one is not. Assumes
-- nothing.
use borrow.Author.Tests.{eq-eqb, ne_eqb}
use Rattle.reach.proofs.moved_met.Goals as goal

pub returns-then-mark-eq1 : goal.returns-then-mark-eq1
returns-then-mark-eq1 c = rw (c.place_out.ensures, c.place-place.ensures, eq-eqb _ 1 c.if-mark-eq1.true)

pub returns : goal.returns
returns c = rw (ne_eqb _ 1 c.if-mark-eq1.false)
