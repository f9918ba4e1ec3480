use borrow.Author.Rules.{rules}
use mathlib.Core.Path.{◌∙◌}
use Rattle.text.proofs.Powers.{highest_first, no_digits}
use Rattle.text.proofs.Laws.{going_here, going_on, going_ends, then, place_within, same_room}
use Rattle.figures.proofs.put_places.Goals as goal

pub loop-left-init : goal.loop-left-init
loop-left-init c = going_here _ _ (place_within _ _ c.put_bytes-p.ensures)

pub loop-left-preserved : goal.loop-left-preserved
loop-left-preserved c =
    going_on _ _ c.loop-left.invariant c.put_byte-p.ensures
    (rw (c.digit.ensures, c.over.ensures) (highest_first _ _ _ c.loop-left-test.true))

pub shape_of-room : goal.shape_of-room
shape_of-room c = c.loop-left.invariant.as_long ∙ same_room _ _ c.put_bytes-p.ensures

pub returns : goal.returns
returns c = then _ _ _ c.put_bytes-p.ensures (going_ends c.loop-left.invariant (no_digits _ _ _ (search rules)))
