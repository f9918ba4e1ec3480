use Rattle.grid.specs.declared.Marked.{Marked}
use Rattle.blocks.proofs.Laws.{none_filled, one_more, all_filled}
use Rattle.std.proofs.Common.{refl, ap, rules}
use Rattle.grid.proofs.found_block.Goals as goal

pub loop-j-init : goal.loop-j-init
loop-j-init c = (none_filled refl, none_filled refl, none_filled refl, none_filled refl)

pub found_at-found-requires : goal.found_at-found-requires
found_at-found-requires c = (c.spacings_block.ensures.held _ (search rules), c.spacings_block-2.ensures.held _ (search rules))

pub loop-j-preserved : goal.loop-j-preserved
loop-j-preserved c =
    let e = c.found_at-found.ensures in
    let u = c.loop-j.invariant in (
      one_more (search rules) (ap (λ (v : Marked). v.mark) e) u.0,
      one_more (search rules) (ap (λ (v : Marked). v.east) e) u.1,
      one_more (search rules) (ap (λ (v : Marked). v.north) e) u.2,
      one_more (search rules) (ap (λ (v : Marked). v.up) e) u.3,
    )

pub returns : goal.returns
returns c = let u = c.loop-j.invariant in (all_filled (search rules) u.0, all_filled (search rules) u.1, all_filled (search rules) u.2, all_filled (search rules) u.3)
