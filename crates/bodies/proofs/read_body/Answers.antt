-- One case for a body of another length than its kind's, one for each kind, and one for any other
-- number, by `cond_same`. Assumes nothing.
use native.Mathlib.Omega.{arith}
use mathlib.Core.Path.{sym, ◌∙◌}
use lib.Dec.{eqb}
use lib.ListN.{length}
use borrow.Author.Tests.{eq-eqb, ne_eqb}
use Rattle.bodies.specs.Kinds.{length_of}
use Rattle.bodies.specs.Read.{step_of, blank_step}
use Rattle.bodies.proofs.Same.{cond_same}
use Rattle.bodies.proofs.read_body.Goals as goal

pub returns-then-b-wide : goal.returns-then-b-wide
unfolding step_of
returns-then-b-wide c =
    let other = ne_eqb (length c.args.b.now) (length_of c.args.kind) (λ e. c.if-b-wide.true (e ∙ sym c.length_of.ensures ∙ sym c.wide.ensures.0)) in
    rw (other, c.blank_step.ensures)

pub fields-requires : goal.fields-requires
unfolding length_of
fields-requires c = rw c.in-1.is at (c.if-b-wide.false ∙ c.wide.ensures.0 ∙ c.length_of.ensures)

pub fields-requires-in-2 : goal.fields-requires-in-2
unfolding length_of
fields-requires-in-2 c = rw c.in-2.is at (c.if-b-wide.false ∙ c.wide.ensures.0 ∙ c.length_of.ensures)

pub fields-requires-in-3 : goal.fields-requires-in-3
unfolding length_of
fields-requires-in-3 c = rw c.in-3.is at (c.if-b-wide.false ∙ c.wide.ensures.0 ∙ c.length_of.ensures)

pub fields-requires-in-4 : goal.fields-requires-in-4
unfolding length_of
fields-requires-in-4 c = rw c.in-4.is at (c.if-b-wide.false ∙ c.wide.ensures.0 ∙ c.length_of.ensures)

pub fields-requires-in-5 : goal.fields-requires-in-5
unfolding length_of
fields-requires-in-5 c = rw c.in-5.is at (c.if-b-wide.false ∙ c.wide.ensures.0 ∙ c.length_of.ensures)

pub fields-requires-in-6 : goal.fields-requires-in-6
unfolding length_of
fields-requires-in-6 c = rw c.in-6.is at (c.if-b-wide.false ∙ c.wide.ensures.0 ∙ c.length_of.ensures)

pub returns-in-1 : goal.returns-in-1
unfolding step_of
returns-in-1 c =
    let fit = eq-eqb (length c.args.b.now) (length_of c.args.kind) (c.if-b-wide.false ∙ c.wide.ensures.0 ∙ c.length_of.ensures) in
    rw (fit, c.in-1.is, c.fields.ensures)

pub returns-in-2 : goal.returns-in-2
unfolding step_of
returns-in-2 c =
    let fit = eq-eqb (length c.args.b.now) (length_of c.args.kind) (c.if-b-wide.false ∙ c.wide.ensures.0 ∙ c.length_of.ensures) in
    rw (fit, c.in-2.is, c.fields-in-2.ensures)

pub returns-in-3 : goal.returns-in-3
unfolding step_of
returns-in-3 c =
    let fit = eq-eqb (length c.args.b.now) (length_of c.args.kind) (c.if-b-wide.false ∙ c.wide.ensures.0 ∙ c.length_of.ensures) in
    rw (fit, c.in-3.is, c.fields-in-3.ensures)

pub returns-in-4 : goal.returns-in-4
unfolding step_of
returns-in-4 c =
    let fit = eq-eqb (length c.args.b.now) (length_of c.args.kind) (c.if-b-wide.false ∙ c.wide.ensures.0 ∙ c.length_of.ensures) in
    rw (fit, c.in-4.is, c.fields-in-4.ensures)

pub returns-in-5 : goal.returns-in-5
unfolding step_of
returns-in-5 c =
    let fit = eq-eqb (length c.args.b.now) (length_of c.args.kind) (c.if-b-wide.false ∙ c.wide.ensures.0 ∙ c.length_of.ensures) in
    rw (fit, c.in-5.is, c.fields-in-5.ensures)

pub returns-in-6 : goal.returns-in-6
unfolding step_of
returns-in-6 c =
    let fit = eq-eqb (length c.args.b.now) (length_of c.args.kind) (c.if-b-wide.false ∙ c.wide.ensures.0 ∙ c.length_of.ensures) in
    rw (fit, c.in-6.is, c.fields-in-6.ensures)

pub returns-in_default : goal.returns-in_default
unfolding step_of
returns-in_default c = let k = c.args.kind in
    rw (ne_eqb k 1 (λ e. omega (arith, e)), ne_eqb k 2 (λ e. omega (arith, e)), ne_eqb k 3 (λ e. omega (arith, e)), ne_eqb k 4 (λ e. omega (arith, e)), ne_eqb k 5 (λ e. omega (arith, e)), ne_eqb k 6 (λ e. omega (arith, e)), c.blank_step-in_default.ensures)
    (cond_same (eqb (length c.args.b.now) (length_of k)) blank_step)
