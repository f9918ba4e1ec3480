-- One case for each kind, and one for any other number, by `no_kind_lowest`. Assumes nothing.
use native.Mathlib.Omega.{arith}
use mathlib.Core.Path.{◌≡◌}
use borrow.Author.Tests.{ne_eqb}
use Rattle.bodies.specs.Rules.{lowest_broken, some_rule}
use Rattle.bodies.proofs.Laws.{lowest_helmert, lowest_cart, lowest_molodensky, lowest_permtide, lowest_deformation, lowest_badekas, no_kind_lowest}
use Rattle.bodies.proofs.lowest_broken.Goals as goal

pub returns-in-1 : goal.returns-in-1
returns-in-1 c = rw (c.in-1.is, lowest_helmert) c.lowest.ensures

pub returns-in-2 : goal.returns-in-2
returns-in-2 c = rw (c.in-2.is, lowest_cart) c.lowest-in-2.ensures

pub returns-in-3 : goal.returns-in-3
returns-in-3 c = rw (c.in-3.is, lowest_molodensky) c.lowest-in-3.ensures

pub returns-in-4 : goal.returns-in-4
returns-in-4 c = rw (c.in-4.is, lowest_permtide) c.lowest-in-4.ensures

pub returns-in-5 : goal.returns-in-5
returns-in-5 c = rw (c.in-5.is, lowest_deformation) c.lowest-in-5.ensures

pub returns-in-6 : goal.returns-in-6
returns-in-6 c = rw (c.in-6.is, lowest_badekas) c.lowest-in-6.ensures

pub returns-in_default : goal.returns-in_default
unfolding some_rule
returns-in_default c =
    let k = c.args.kind in
    let b = c.args.b.now in
    let five : lowest_broken k b ≡ 5 =
    no_kind_lowest k b (ne_eqb k 1 (λ e. omega (arith, e))) (ne_eqb k 2 (λ e. omega (arith, e))) (ne_eqb k 3 (λ e. omega (arith, e))) (ne_eqb k 4 (λ e. omega (arith, e))) (ne_eqb k 5 (λ e. omega (arith, e))) (ne_eqb k 6 (λ e. omega (arith, e))) in
    rw five
