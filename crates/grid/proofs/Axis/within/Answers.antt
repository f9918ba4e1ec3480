-- Each return by the tests that led there. Assumes nothing.
use mathlib.Core.Bool.{true≢false}
use mathlib.Core.Path.{sym, ◌∙◌}
use Rattle.grid.specs.Lookup.{within_of}
use Rattle.grid.proofs.Axis.within.Goals.{then-count_in_rule, else-count_in_rule}
use Rattle.grid.proofs.Axis.within.Goals as goal

pub returns-then-self-x : goal.returns-then-self-x
unfolding within_of
returns-then-self-x c =
    elim c.if-count_in_rule.branch [
      | then-count_in_rule w ↦ rw (c.last.ensures, ← c.count_in_rule.ensures, w.if-count_in_rule.true, sym w.value-is ∙ c.if-self-x.true)
      | else-count_in_rule w ↦ absurd (true≢false (sym c.if-self-x.true ∙ w.value-is ∙ w.if-count_in_rule.false))
    ]

pub returns-else-self-x : goal.returns-else-self-x
unfolding within_of
returns-else-self-x c =
    elim c.if-count_in_rule.branch [
      | then-count_in_rule w ↦ rw (c.if-self-x.false, ← c.count_in_rule.ensures, w.if-count_in_rule.true, sym w.value-is ∙ c.if-self-x.false)
      | else-count_in_rule w ↦ rw (c.if-self-x.false, ← c.count_in_rule.ensures, w.if-count_in_rule.false)
    ]
