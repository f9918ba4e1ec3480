-- One case for each variant. What the body does is, step by step, what the definition says.
-- Assumes nothing.
use Rattle.bodies.specs.Kinds.{kind_of}
use Rattle.bodies.proofs.kind_of.Goals as goal

pub returns-in-Helmert : goal.returns-in-Helmert
unfolding kind_of
returns-in-Helmert c = rw c.in-Helmert.is

pub returns-in-Cart : goal.returns-in-Cart
unfolding kind_of
returns-in-Cart c = rw c.in-Cart.is

pub returns-in-Molodensky : goal.returns-in-Molodensky
unfolding kind_of
returns-in-Molodensky c = rw c.in-Molodensky.is

pub returns-in-Permtide : goal.returns-in-Permtide
unfolding kind_of
returns-in-Permtide c = rw c.in-Permtide.is

pub returns-in-Deformation : goal.returns-in-Deformation
unfolding kind_of
returns-in-Deformation c = rw c.in-Deformation.is

pub returns-in-Badekas : goal.returns-in-Badekas
unfolding kind_of
returns-in-Badekas c = rw c.in-Badekas.is
