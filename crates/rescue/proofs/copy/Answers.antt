-- The part that is lent holds the bytes in the end, by what wrote it last; so the room holds a put of
-- them (`put-part`), which fits. Assumes nothing.
use mathlib.Core.Path.{refl, ◌∙◌}
use borrow.Author.Rules.{rules}
use lib.ListN.{length}
use Rattle.words.proofs.Laws.{put-part, put-fits}
use Rattle.rescue.proofs.copy.Goals as goal

pub returns : goal.returns
returns c =
    let a = c.args in
    put-part a.room.now a.at (length a.bytes.now) a.bytes.now (search rules) refl c.requires
    ∙ put-fits a.room.now a.at a.bytes.now c.requires
