-- Three stores and the time that stands are a tuple put (`point-set`). Assumes nothing.
use borrow.Author.Rules.{rules}
use mathlib.Core.Path.{refl}
use Rattle.columns.proofs.Laws.{point-set}
use Rattle.columns.proofs.put_point.Goals as goal

pub returns : goal.returns
returns c = point-set _ _ _ _ (search rules, search rules, search rules) _ (search rules) _ refl
