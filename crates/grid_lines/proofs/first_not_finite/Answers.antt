use mathlib.Core.Path.{◌≡◌, sym, ap, ◌∙◌}
use Prim.Native.Nat.{ℕ}
use native.Mathlib.Omega.{arith}
use native.Mathlib.Nat.{sub-zero}
use Rattle.grid_lines.specs.Lines.{not_finite_from}
use Rattle.grid_lines.proofs.Finite.{past_finite, at_not_finite, at_end}
use borrow.Author.Rules.{rules}
use Rattle.grid_lines.proofs.first_not_finite.Goals as goal

pub loop-k-init : goal.loop-k-init
loop-k-init c = (c.numbers-n.ensures, sym (ap (λ (m : ℕ). not_finite_from c.args.g.now m 0) (sub-zero c.numbers-n.result ∙ c.numbers-n.ensures)))

pub loop-k-preserved : goal.loop-k-preserved
loop-k-preserved c =
    let l = c.loop-k in
    let e = sym c.number.ensures in
    (l.invariant.0, l.invariant.1 ∙ past_finite _ _ _ c.loop-k-test.true (rw e (sym c.is_finite.ensures ∙ c.if-not-is_finite.false)))

pub returns-then-not-is_finite : goal.returns-then-not-is_finite
returns-then-not-is_finite c =
    let l = c.loop-k in
    let e = sym c.number.ensures in
    (at_not_finite _ _ _ c.loop-k-test.true (rw e (sym c.is_finite.ensures ∙ c.if-not-is_finite.true)) ∙ sym l.invariant.1, omega (arith, l.invariant.0, c.loop-k-test.true))

pub returns : goal.returns
returns c =
    let l = c.loop-k in
    let all : c.numbers-n.result ≡ l.k = search rules in
    (all ∙ at_end _ _ _ c.loop-k-test.false ∙ sym l.invariant.1, omega (arith, l.invariant.0))
