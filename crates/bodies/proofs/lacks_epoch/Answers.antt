-- One case for the kind that the rule asks something of, and one for the others. Assumes nothing.
use mathlib.Core.Logic.{inl, inr}
use Rattle.bodies.specs.Rules.{lacks_epoch}
use Rattle.bodies.proofs.lacks_epoch.Goals as goal

pub returns-in-Helmert : goal.returns-in-Helmert
unfolding lacks_epoch
returns-in-Helmert c = rw (c.lacks_epoch.ensures, c.in-Helmert.is)

pub returns-in-Cart : goal.returns-in-Cart
unfolding lacks_epoch
returns-in-Cart c = elim c.in-Cart.is [ inl w ↦ rw w.1 | inr t ↦ elim t [ inl w ↦ rw w.1 | inr u ↦ elim u [ inl w ↦ rw w.1 | inr v ↦ elim v [ inl w ↦ rw w.1 | inr w ↦ rw w.1 ] ] ] ]
