-- The word's bytes (`to_le_bytes-is`) copied into the part that is lent are a put (`put-part`); where
-- they do not fit nothing is (`put_too_long`). Assumes nothing.
use native.Mathlib.Omega.{arith}
use mathlib.Core.Path.{sym, ◌∙◌}
use Rattle.words.specs.Words.{le32}
use Rattle.words.proofs.Laws.{to_le_bytes-is, length-le32, put-part, put_too_long}
use Rattle.words.proofs.put32.Goals as goal

pub returns-then-room-at-ge4 : goal.returns-then-room-at-ge4
returns-then-room-at-ge4 c =
    let a = c.args in
    let copied = c.copy_from_slice.ensures.after ∙ c.to_le_bytes.ensures ∙ to_le_bytes-is a.n in
    put-part a.room.now a.at 4 (le32 a.n) copied (length-le32 a.n) (omega arith)

pub returns-else-room-at-ge4 : goal.returns-else-room-at-ge4
unfolding le32
returns-else-room-at-ge4 c = sym (put_too_long _ _ _ (omega arith))

pub returns-else-at-room : goal.returns-else-at-room
unfolding le32
returns-else-at-room c = sym (put_too_long _ _ _ (omega arith))
