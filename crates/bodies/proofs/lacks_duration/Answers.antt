-- One case for the kind that the rule asks something of, and one for the others. Assumes nothing.
use mathlib.Core.Logic.{inl, inr}
use Rattle.bodies.specs.Rules.{lacks_duration}
use Rattle.bodies.proofs.lacks_duration.Goals as goal

pub returns-in-Deformation : goal.returns-in-Deformation
unfolding lacks_duration
returns-in-Deformation c = rw (c.lacks_duration.ensures, c.in-Deformation.is)

pub returns-in-Helmert : goal.returns-in-Helmert
unfolding lacks_duration
returns-in-Helmert c = elim c.in-Helmert.is [ inl w ↦ rw w.1 | inr t ↦ elim t [ inl w ↦ rw w.1 | inr u ↦ elim u [ inl w ↦ rw w.1 | inr v ↦ elim v [ inl w ↦ rw w.1 | inr w ↦ rw w.1 ] ] ] ]
