-- By `put-fits` and `bytes-length`, from what the calls ensure. Assumes nothing.
use mathlib.Core.Path.{◌∙◌}
use lib.ListN.{length}
use Prim.Native.Nat.{◌+◌, ◌≤◌}
use Rattle.body_writer.specs.Write.{bytes_of}
use mathlib.Core.Path.{◌∙◌}
use Rattle.words.proofs.Laws.{put-fits}
use Rattle.body_writer.proofs.Laws.{bytes-length}
use Rattle.sheet.specs.Layout.{step_in}
use Rattle.sheet_writer.proofs.put_body.Goals as goal

pub returns : goal.returns
returns c =
    let a = c.args in
    let fits : a.start + length (bytes_of (step_in a.sheet a.i)) ≤ length a.room.now = rw bytes-length c.requires.1 in
    rw c.entry_in.ensures at c.write_body.ensures ∙ put-fits _ _ _ fits
