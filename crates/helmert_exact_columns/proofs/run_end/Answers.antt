-- In own-epoch mode no row is told of; in running mode the call tells of them. Assumes nothing.
use borrow.Author.Rules.{rules}
use native.Mathlib.Omega.{arith}
use Rattle.helmert_exact_columns.proofs.run_end.Goals as goal

pub returns-then-own : goal.returns-then-own
returns-then-own c = (search rules, search rules, λ k a b. absurd (omega (arith, a, b)))

pub returns : goal.returns
returns c =
    let r = c.run_end.ensures in
    (r.0, r.1 (search rules), λ k a b. (c.if-own.false, r.2 k a b))
