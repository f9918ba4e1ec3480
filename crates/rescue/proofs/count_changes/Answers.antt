use native.Mathlib.Omega.{arith}
use mathlib.Core.Path.{◌≡◌, refl, sym, ap, ◌∙◌}
use Prim.Native.Nat.{ℕ, ◌*◌}
use borrow.Author.Tests.{eqb-true, eqb-false, not-true, not-false}
use lib.ListN.{length}
use Rattle.rescue.specs.Changes.{changes_in}
use Rattle.rescue.proofs.Listing.{none_changed, one_changed, counted_next}
use Rattle.rescue.proofs.count_changes.Goals as goal
use Rattle.rescue.proofs.count_changes.Goals.{then-differs, else-differs}

pub loop-i-init : goal.loop-i-init
unfolding changes_in
loop-i-init c = (omega arith, (omega arith, refl))

pub loop-i-preserved : goal.loop-i-preserved
loop-i-preserved c =
    let l = c.loop-i in
    let s = c.args.s.now in
    let r = c.args.r.now in
    let next = counted_next s r l.i in
    let is = sym c.differs.ensures in
    elim c.if-differs.branch [
      | then-differs w ↦
          let one = ap length (one_changed (4 * l.i) _ _ (eqb-false _ _ (not-true _ (is ∙ w.if-differs.true)))) in
          (omega arith, (omega (arith, w.changed-is), omega (arith, w.changed-is, l.invariant.1.1, one, next)))
      | else-differs w ↦
          let none = ap length (none_changed (4 * l.i) _ _ (eqb-true _ _ (not-false _ (is ∙ w.if-differs.false)))) in
          (omega arith, (omega (arith, w.changed-is), omega (arith, w.changed-is, l.invariant.1.1, none, next)))
    ]

pub returns : goal.returns
returns c =
    let l = c.loop-i in
    let a = c.args in
    let all : l.i ≡ a.n = omega arith in
    (l.invariant.1.1 ∙ ap (λ (k : ℕ). length (changes_in a.s.now a.r.now k)) all, omega arith)
