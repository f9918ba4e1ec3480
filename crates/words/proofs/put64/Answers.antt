-- One case for each return. Each by `put_two`, `put_too_long` and `length-le64`. Assumes nothing.
use native.Mathlib.Omega.{arith}
use mathlib.Core.Path.{sym}
use Rattle.words.proofs.Laws.{put_two, put_too_long, length-le64}
use Rattle.words.proofs.put64.Goals as goal

pub returns-then-room-at-ge8 : goal.returns-then-room-at-ge8
returns-then-room-at-ge8 c = cc (put_two c.args.room.now c.args.at c.args.n (omega arith))

pub returns-else-room-at-ge8 : goal.returns-else-room-at-ge8
returns-else-room-at-ge8 c = sym (put_too_long _ _ _ (simp length-le64 (omega arith)))

pub returns-else-at-room : goal.returns-else-at-room
returns-else-at-room c = sym (put_too_long _ _ _ (simp length-le64 (omega arith)))
