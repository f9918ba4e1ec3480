-- One case for each kind, and one for a number that is no kind. Assumes nothing.
use borrow.Author.Rules.{rules}
use Rattle.fields.specs.Fields.{fields_text}
use Rattle.fields.proofs.put_fields.Goals as goal

pub returns-in-1 : goal.returns-in-1
unfolding fields_text
returns-in-1 c = rw c.in-1.is c.put_helmert.ensures

pub returns-in-2 : goal.returns-in-2
unfolding fields_text
returns-in-2 c = rw c.in-2.is c.put_cart.ensures

pub returns-in-3 : goal.returns-in-3
unfolding fields_text
returns-in-3 c = rw c.in-3.is c.put_molodensky.ensures

pub returns-in-4 : goal.returns-in-4
unfolding fields_text
returns-in-4 c = rw c.in-4.is c.put_permtide.ensures

pub returns-in-5 : goal.returns-in-5
unfolding fields_text
returns-in-5 c = rw c.in-5.is c.put_deformation.ensures

pub returns-in-6 : goal.returns-in-6
unfolding fields_text
returns-in-6 c = rw c.in-6.is c.put_badekas.ensures

pub returns-in_default : goal.returns-in_default
unfolding fields_text
returns-in_default c = search rules
