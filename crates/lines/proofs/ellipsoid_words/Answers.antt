-- One case for each arm. An ellipsoid's figures are those of the table (`grs80` and its like).
-- Assumes nothing.
use native.Mathlib.Omega.{arith}
use borrow.Author.Tests.{ne_eqb}
use Rattle.lines.proofs.Table.{grs80, wgs84, international, bessel, krassowsky}
use Rattle.lines.specs.Lines.{ellipsoid_text}
use Rattle.lines.proofs.ellipsoid_words.Goals as goal

pub returns-in-0 : goal.returns-in-0
unfolding ellipsoid_text
returns-in-0 c = rw c.in-0.is

pub returns-in-1 : goal.returns-in-1
unfolding ellipsoid_text
returns-in-1 c = rw (c.in-1.is, grs80)

pub returns-in-2 : goal.returns-in-2
unfolding ellipsoid_text
returns-in-2 c = rw (c.in-2.is, wgs84)

pub returns-in-3 : goal.returns-in-3
unfolding ellipsoid_text
returns-in-3 c = rw (c.in-3.is, international)

pub returns-in-4 : goal.returns-in-4
unfolding ellipsoid_text
returns-in-4 c = rw (c.in-4.is, bessel)

pub returns-in-5 : goal.returns-in-5
unfolding ellipsoid_text
returns-in-5 c = rw (c.in-5.is, krassowsky)

pub returns-in_default : goal.returns-in_default
unfolding ellipsoid_text
returns-in_default c =
    let n = c.args.number in
    rw (ne_eqb n 1 (omega arith), ne_eqb n 2 (omega arith), ne_eqb n 3 (omega arith), ne_eqb n 4 (omega arith), ne_eqb n 5 (omega arith), ne_eqb n 0 (omega arith))
