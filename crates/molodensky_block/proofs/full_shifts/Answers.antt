use borrow.Author.Rules.{rules}
use Rattle.blocks.proofs.Laws.{none_filled, one_more, all_filled}
use Rattle.blocks.proofs.Over.{none_over, still, one_more_over, all_over}
use Rattle.molodensky_block.proofs.full_shifts.Goals as goal

pub loop-i-init : goal.loop-i-init
loop-i-init c = (none_over (search rules), none_over (search rules), none_filled (search rules))

pub loop-i-preserved : goal.loop-i-preserved
loop-i-preserved c =
    let u = c.loop-i.invariant in (
      one_more_over (search rules) (rw (c.numbers-shift.ensures, c.full_offsets.ensures, c.place_with-p.ensures, still u.0, still u.1)) u.0,
      one_more_over (search rules) (rw (c.numbers-shift.ensures, c.full_offsets.ensures, c.place_with-p.ensures, still u.0, still u.1)) u.1,
      one_more (search rules) (rw (c.numbers-shift.ensures, c.full_offsets.ensures, c.place_with-p.ensures, still u.0, still u.1)) u.2,
    )

pub returns : goal.returns
returns c =
    let u = c.loop-i.invariant in
    (all_over (search rules) u.0, all_over (search rules) u.1, all_filled (search rules) u.2)
