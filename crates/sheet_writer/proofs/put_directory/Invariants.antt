-- Invariant: the room is the one at the start with the directory's words of the first i steps put
-- at 16 (`directory_bytes`), and as long as that; `start` is where body i starts (`body_start`), at
-- most 248 bytes a body past the directory. A turn puts the words of step i (`directory-next`) and
-- moves `start` past its body (`start-next`). At i = n the directory is written. Assumes nothing.
use mathlib.Core.Path.{◌≡◌}
use Prim.Native.Nat.{◌+◌, ◌*◌, ◌≤◌}
use Rattle.sheet_writer.specs.Bytes.{body_start, directory_bytes}
use lib.ListN.{length}
use Rattle.words.specs.Words.{put}
use Rattle.sheet_writer.proofs.put_directory.Given as goal

abbrev pub invariant-loop-i : goal.invariant-loop-i
invariant-loop-i l = (l.i ≤ l.n) × ((l.start ≡ body_start l.sheet l.i) × ((l.start ≤ 16 + 16 * l.n + 248 * l.i) × ((length l.room ≡ length l.initial.room) × (l.room ≡ put l.initial.room 16 (directory_bytes l.sheet l.i)))))
