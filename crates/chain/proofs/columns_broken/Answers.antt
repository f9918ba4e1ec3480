-- By computation: the body's operations are the definition's, in its order. Assumes nothing.
use mathlib.Core.Path.{refl}
use Rattle.chain.specs.Columns.{refusal9_columns}
use Rattle.chain.proofs.columns_broken.Goals as goal

pub returns : goal.returns
unfolding refusal9_columns
returns c = refl
