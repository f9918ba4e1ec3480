-- The pattern is that of the part's number; it and the one with the sign turned tell
-- whether it is finite (`finite_by_both`). Assumes nothing.
use Rattle.grid_rules.proofs.Patterns.{larger_below, finite_by_both}
use Rattle.words.specs.Words.{number_at}
use Rattle.grid_rules.specs.Patterns.{below_infinity}
use mathlib.Core.Path.{ap, ◌∙◌}
use borrow.Author.Rules.{rules}
use Rattle.grid_rules.proofs.worst_of_one.Goals as goal

pub returns : goal.returns
unfolding number_at
returns c = ap below_infinity c.larger.ensures ∙ larger_below _ _ _ ∙ rw c.sign_turned.ensures (finite_by_both c.read64-p.result (search rules) ∙ rw c.read64-p.ensures)
