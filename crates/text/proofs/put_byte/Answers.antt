-- One case for each return. Each by `one` and `full`. Assumes nothing.
use Rattle.text.proofs.Laws.{one, full}
use borrow.Author.Rules.{rules}
use Rattle.text.proofs.put_byte.Goals as goal

pub returns-then-at-room : goal.returns-then-at-room
returns-then-at-room c = one _ _ _ (search rules)

pub returns : goal.returns
returns c = full _ _ _ (search rules)
