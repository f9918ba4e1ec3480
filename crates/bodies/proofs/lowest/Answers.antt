-- One case for each way through the tests. Assumes nothing.
use mathlib.Core.Path.{◌≡◌}
use mathlib.Core.Bool.{true, false, ◌&&◌}
use borrow.Author.Tests.{eq-eqb, ne_eqb}
use Rattle.bodies.specs.Rules.{some_rule, lowest_of}
use Rattle.bodies.proofs.lowest.Goals as goal

pub returns-then-b-LENGTH : goal.returns-then-b-LENGTH
unfolding some_rule lowest_of
returns-then-b-LENGTH g c = rw (← c.LENGTH.ensures, ne_eqb _ _ c.if-b-LENGTH.true)

pub returns-then-not-keeps_five : goal.returns-then-not-keeps_five
unfolding some_rule lowest_of
returns-then-not-keeps_five g c =
    let k = g.B.Body in
    let b = c.args.b.now in
    let five : (k.written b && k.in_rule (k.held b)) ≡ false = rw (← c.fields-record.ensures, ← c.keeps_five.ensures) c.if-not-keeps_five.true in
    rw (← c.LENGTH.ensures, eq-eqb _ _ c.if-b-LENGTH.false, five)

pub returns : goal.returns
unfolding lowest_of
returns g c =
    let k = g.B.Body in
    let b = c.args.b.now in
    let five : (k.written b && k.in_rule (k.held b)) ≡ true = rw (← c.fields-record.ensures, ← c.keeps_five.ensures) c.if-not-keeps_five.false in
    rw (← c.LENGTH.ensures, eq-eqb _ _ c.if-b-LENGTH.false, five, c.breaks.ensures, c.fields-record.ensures)
