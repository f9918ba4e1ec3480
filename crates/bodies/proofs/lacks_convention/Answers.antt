-- One case for each kind that the rule asks something of, and one for the others. Assumes nothing.
use mathlib.Core.Logic.{inl, inr}
use Rattle.bodies.specs.Rules.{lacks_convention}
use Rattle.bodies.proofs.lacks_convention.Goals as goal

pub returns-in-Helmert : goal.returns-in-Helmert
unfolding lacks_convention
returns-in-Helmert c = rw (c.lacks_convention.ensures, c.in-Helmert.is)

pub returns-in-Badekas : goal.returns-in-Badekas
unfolding lacks_convention
returns-in-Badekas c = rw (c.lacks_convention-in-Badekas.ensures, c.in-Badekas.is)

pub returns-in-Cart : goal.returns-in-Cart
unfolding lacks_convention
returns-in-Cart c = elim c.in-Cart.is [ inl w ↦ rw w.1 | inr u ↦ elim u [ inl w ↦ rw w.1 | inr v ↦ elim v [ inl w ↦ rw w.1 | inr w ↦ rw w.1 ] ] ]
