-- The eight patterns are those of the part's numbers; `worst_tells` says what the
-- largest of them tells. Assumes nothing.
use Rattle.grid_rules.proofs.Patterns.{worst_tells}
use Rattle.words.specs.Words.{number_at}
use Rattle.grid_rules.specs.Patterns.{below_infinity, eight_finite}
use mathlib.Core.Path.{ap, ◌∙◌}
use borrow.Author.Rules.{rules}
use Rattle.grid_rules.proofs.worst_of_eight.Goals as goal

pub returns : goal.returns
unfolding eight_finite number_at
returns c = ap below_infinity c.worst.ensures ∙ worst_tells _ _ _ _ _ _ _ _ (search rules) (search rules) (search rules) (search rules) (search rules) (search rules) (search rules) (search rules) ∙ rw (c.read64-8.ensures, c.read64-7.ensures, c.read64-6.ensures, c.read64-5.ensures, c.read64-4.ensures, c.read64-3.ensures, c.read64-2.ensures, c.read64.ensures)
