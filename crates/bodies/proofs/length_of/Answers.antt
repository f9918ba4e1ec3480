-- One case for each kind, and one for any other number. Assumes nothing.
use native.Mathlib.Omega.{arith}
use borrow.Author.Tests.{ne_eqb}
use Rattle.bodies.specs.Kinds.{length_of}
use Rattle.bodies.proofs.length_of.Goals as goal

pub returns-in-1 : goal.returns-in-1
unfolding length_of
returns-in-1 c = rw c.in-1.is

pub returns-in-2 : goal.returns-in-2
unfolding length_of
returns-in-2 c = rw c.in-2.is

pub returns-in-3 : goal.returns-in-3
unfolding length_of
returns-in-3 c = rw c.in-3.is

pub returns-in-4 : goal.returns-in-4
unfolding length_of
returns-in-4 c = rw c.in-4.is

pub returns-in-5 : goal.returns-in-5
unfolding length_of
returns-in-5 c = rw c.in-5.is

pub returns-in-6 : goal.returns-in-6
unfolding length_of
returns-in-6 c = rw c.in-6.is

pub returns-in_default : goal.returns-in_default
unfolding length_of
returns-in_default c = let k = c.args.kind in
    rw (ne_eqb k 1 (λ e. omega (arith, e)), ne_eqb k 2 (λ e. omega (arith, e)), ne_eqb k 3 (λ e. omega (arith, e)), ne_eqb k 4 (λ e. omega (arith, e)), ne_eqb k 5 (λ e. omega (arith, e)), ne_eqb k 6 (λ e. omega (arith, e)))
