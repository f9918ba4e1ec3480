use borrow.Author.Rules.{rules}
use mathlib.Core.Path.{refl}
use Rattle.hypot_block.proofs.Blocks.{none_usual, one_more_usual, all_told}
use Rattle.hypot_block.proofs.usual_block.Goals as goal

pub loop-i-init : goal.loop-i-init
loop-i-init c = none_usual refl

pub loop-i-preserved : goal.loop-i-preserved
loop-i-preserved c = rw (c.unwrap_or.ensures, c.is_some-all.ensures) (one_more_usual (search rules) c.usual_length-u.ensures c.loop-i.invariant)

pub returns : goal.returns
returns c = all_told (search rules) c.loop-i.invariant
