-- Calls are replaced by what they ensure; the definition is left. Assumes nothing.
use borrow.Author.Rules.{rules}
use Rattle.sillfeather.proofs.sillfeather_sin_cos.Goals as goal

pub returns : goal.returns
returns c = rw c.sin_cos_numbers-pair.ensures (search rules)
