-- One case for each return. Each by `tuple-there` and `none_there`, from what the calls ensure.
-- Assumes nothing.
use borrow.Author.Rules.{rules}
use mathlib.Core.Path.{sym, ◌∙◌}
use Rattle.lists.proofs.Places.{tuple-there, none_there}
use Rattle.lists.proofs.read4.Goals as goal

pub returns-then-saturating_sub-lt4 : goal.returns-then-saturating_sub-lt4
returns-then-saturating_sub-lt4 c = c.nan.ensures ∙ sym (none_there _ _ (search rules))

pub returns : goal.returns
returns c = sym (tuple-there _ _ (search rules))
