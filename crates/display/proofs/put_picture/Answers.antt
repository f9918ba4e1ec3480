-- What `put_bytes` answers lies within the room. Assumes nothing.
use Rattle.text.proofs.Laws.{place_within}
use Rattle.display.proofs.put_picture.Goals as goal

pub returns : goal.returns
returns c = place_within _ _ c.put_bytes.ensures
