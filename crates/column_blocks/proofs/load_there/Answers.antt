use borrow.Author.Rules.{rules}
use mathlib.Core.Path.{ap}
use Rattle.tuple.specs.declared.Tuple.{Tuple}
use Rattle.blocks.proofs.Laws.{none_filled, one_more, all_filled}
use Rattle.column_blocks.proofs.Blocks.{block_read}
use Rattle.column_blocks.proofs.load_there.Goals as goal

pub loop-j-init : goal.loop-j-init
loop-j-init c = (none_filled (search rules), none_filled (search rules), none_filled (search rules), none_filled (search rules))

pub loop-j-preserved : goal.loop-j-preserved
loop-j-preserved c =
    let l = c.loop-j in
    let e = block_read _ _ _ _ c.requires.0 c.args.i c.requires.1 l.j (search rules) in
    let u = l.invariant in
    (one_more (search rules) (ap (λ (v : Tuple). v.x) e) u.0, one_more (search rules) (ap (λ (v : Tuple). v.y) e) u.1, one_more (search rules) (ap (λ (v : Tuple). v.z) e) u.2, one_more (search rules) (ap (λ (v : Tuple). v.t) e) u.3)

pub returns : goal.returns
returns c = let u = c.loop-j.invariant in (all_filled (search rules) u.0, all_filled (search rules) u.1, all_filled (search rules) u.2, all_filled (search rules) u.3)
