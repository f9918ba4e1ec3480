use borrow.Author.Rules.{rules}
use mathlib.Core.Path.{refl}
use Rattle.blocks.proofs.Laws.{none_filled, all_filled}
use Rattle.arctan_block.proofs.Blocks.{two_more}
use Rattle.arctan_block.proofs.pairs.Goals as goal

pub loop-h-init : goal.loop-h-init
loop-h-init c = none_filled refl

pub loop-h-preserved : goal.loop-h-preserved
loop-h-preserved c =
    two_more c.loop-h-test.true
    (rw (c.quick-v.ensures, c.octant_at-o.ensures, c.cell_at-c.ensures, c.min.ensures))
    (rw (c.quick-w.ensures, c.octant_at-p.ensures, c.cell_at-d.ensures, c.min-in-loop-h.ensures))
    c.loop-h.invariant

pub returns : goal.returns
returns c = all_filled (search rules) c.loop-h.invariant
