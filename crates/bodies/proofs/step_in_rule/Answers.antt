-- One case for each variant. Calls are replaced by what they ensure; the definition is left.
-- Assumes nothing.
use Rattle.bodies.specs.Rules.{step_in_rule}
use Rattle.bodies.proofs.step_in_rule.Goals as goal

pub returns-in-Helmert : goal.returns-in-Helmert
unfolding step_in_rule
returns-in-Helmert c = rw (c.fields_in_rule.ensures, c.in-Helmert.is)

pub returns-in-Cart : goal.returns-in-Cart
unfolding step_in_rule
returns-in-Cart c = rw (c.in_rule.ensures, c.in-Cart.is)

pub returns-in-Molodensky : goal.returns-in-Molodensky
unfolding step_in_rule
returns-in-Molodensky c = rw (c.in_rule-in-Molodensky.ensures, c.in-Molodensky.is)

pub returns-in-Permtide : goal.returns-in-Permtide
unfolding step_in_rule
returns-in-Permtide c = rw (c.in_rule-in-Permtide.ensures, c.in-Permtide.is)

pub returns-in-Deformation : goal.returns-in-Deformation
unfolding step_in_rule
returns-in-Deformation c = rw (c.in_rule-in-Deformation.ensures, c.in-Deformation.is)

pub returns-in-Badekas : goal.returns-in-Badekas
unfolding step_in_rule
returns-in-Badekas c = rw (c.fields_in_rule-in-Badekas.ensures, c.in-Badekas.is)
