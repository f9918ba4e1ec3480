-- One case for Helmert, one for cart and one for the others. Calls are replaced by what they ensure;
-- the definition is left. Assumes nothing.
use mathlib.Core.Logic.{inl, inr}
use Rattle.profile.specs.Profile.{refusal25}
use Rattle.profile.proofs.offends.Goals as goal

pub returns-in-Helmert : goal.returns-in-Helmert
unfolding refusal25
returns-in-Helmert c = rw (c.helmert_offends.ensures, c.in-Helmert.is)

pub returns-in-Cart : goal.returns-in-Cart
unfolding refusal25
returns-in-Cart c = rw c.in-Cart.is

pub returns-in-Molodensky : goal.returns-in-Molodensky
unfolding refusal25
returns-in-Molodensky c = elim c.in-Molodensky.is [ inl w ↦ rw w.1 | inr u ↦ elim u [ inl w ↦ rw w.1 | inr v ↦ elim v [ inl w ↦ rw w.1 | inr w ↦ rw w.1 ] ] ]
