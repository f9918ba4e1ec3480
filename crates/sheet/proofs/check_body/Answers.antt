-- The body's lowest broken rule is the first of the step's rules that is broken. Assumes nothing.
use mathlib.Core.Path.{◌≡◌, refl, sym, ◌∙◌}
use borrow.Author.Tests.{eq-eqb, ne_eqb}
use Rattle.bodies.proofs.Laws.{no_rule, a_rule}
use Rattle.bodies.specs.Rules.{lowest_broken}
use Rattle.sheet.specs.Layout.{kind_at, body_at, step_at}
use Rattle.sheet.specs.Rules.{accepted, of_step, refusal5_at, rules_of_step, first_broken}
use Rattle.sheet.proofs.Order.{lowest_first, of_index_lem}
use Rattle.sheet.proofs.Unless.{accepts, refuses}
use Rattle.sheet.proofs.check_body.Goals as goal

pub returns-in-Some : goal.returns-in-Some
returns-in-Some c =
    let s = c.args.s.now in
    let i = c.args.i in
    let rule = a_rule (lowest_broken (kind_at s i) (body_at s i)) c.in-Some.number (rw (← c.body_at.ensures, ← c.kind_at.ensures) (sym c.lowest_broken.ensures ∙ c.in-Some.is)) in
    let lowest : first_broken (rules_of_step i (refusal5_at s i) (step_at s i)) ≡ of_step c.in-Some.number i = rw (lowest_first, rule.0, ne_eqb _ 0 rule.1) in
    let named = of_index_lem c.in-Some.number i c.requires in
    rw (lowest, c.of_step.ensures, named) (sym (refuses _ tt rule.1))

pub returns-in-None : goal.returns-in-None
returns-in-None c =
    let s = c.args.s.now in
    let i = c.args.i in
    let none = no_rule (lowest_broken (kind_at s i) (body_at s i)) (rw (← c.body_at.ensures, ← c.kind_at.ensures) (sym c.lowest_broken.ensures ∙ c.in-None.is)) in
    let lowest : first_broken (rules_of_step i (refusal5_at s i) (step_at s i)) ≡ accepted = rw (lowest_first, eq-eqb _ 0 none) in
    rw lowest (sym (accepts accepted tt refl))
