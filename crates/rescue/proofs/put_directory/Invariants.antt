-- Invariant: r is the one at the start with the entries of the first i steps put at 16
-- (`directory_bytes`), and as long as that; `start` is where body i starts (`start_of`), at most 248
-- bytes a body past the directory. A turn puts the entry of step i (`directory-next`) and moves
-- `start` past its body (`start-next`). At i = n the directory is written.
-- Assumes nothing.
use mathlib.Core.Path.{◌≡◌}
use Prim.Native.Nat.{◌+◌, ◌*◌, ◌≤◌}
use lib.ListN.{length}
use Rattle.words.specs.Words.{put}
use Rattle.rescue.specs.Rebuilt.{start_of, directory_bytes}
use Rattle.rescue.proofs.put_directory.Given as goal

abbrev pub invariant-loop-i : goal.invariant-loop-i
invariant-loop-i l = (l.i ≤ l.n) × ((l.start ≡ start_of l.s l.i) × ((l.start ≤ 16 + 16 * l.n + 248 * l.i) × ((length l.r ≡ length l.initial.r) × (l.r ≡ put l.initial.r 16 (directory_bytes l.s l.i)))))
