-- Each return by the tests that led there. Assumes nothing.
use Rattle.grid_rules.proofs.Patterns.{twice}
use Rattle.grid_rules.specs.Rules.{refusal18}
use mathlib.Core.Bool.{true≢false}
use mathlib.Core.Path.{sym, ◌∙◌}
use Rattle.grid_rules.proofs.numbers_in_rule.Goals.{then-all_finite, else-all_finite}
use Rattle.grid_rules.proofs.numbers_in_rule.Goals as goal

pub returns-then-above_zero : goal.returns-then-above_zero
unfolding refusal18
returns-then-above_zero c =
    elim c.if-all_finite.branch [
      | then-all_finite w ↦ rw (c.above_zero-then-above_zero.ensures, c.longitude_spacing.ensures, ← w.latitude_spacing.ensures, ← w.above_zero.ensures, sym w.value-is ∙ c.if-above_zero.true, ← c.all_finite.ensures, w.if-all_finite.true) (twice _)
      | else-all_finite w ↦ absurd (true≢false (sym c.if-above_zero.true ∙ w.value-is ∙ w.if-all_finite.false))
    ]

pub returns-else-above_zero : goal.returns-else-above_zero
unfolding refusal18
returns-else-above_zero c =
    elim c.if-all_finite.branch [
      | then-all_finite w ↦ rw (c.if-above_zero.false, ← w.latitude_spacing.ensures, ← w.above_zero.ensures, sym w.value-is ∙ c.if-above_zero.false, ← c.all_finite.ensures, w.if-all_finite.true)
      | else-all_finite w ↦ rw (c.if-above_zero.false, ← c.all_finite.ensures, w.if-all_finite.false)
    ]
